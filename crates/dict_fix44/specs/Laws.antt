-- Own: how a book changes by a message of FIX 4.4: by what the message means, and by nothing else.
use Rattle.std.specs.Prelude.{◌≡◌}
use Rattle.message_tables.specs.Tables.{Message}
use Rattle.order_meaning.specs.Book.{Book}
use Rattle.order_meaning.specs.Meant.{step_if}
use Rattle.dict_fix44.specs.Sense.{report44}
use Rattle.dict_fix44.specs.Step.{step44}

-- A STEP IS BY THE MEANING; a message that means no report changes nothing.
abbrev pub StepsAreMeant : Type 0
StepsAreMeant = (book : Book) (m : Message) → step44 book m ≡ step_if book (report44 m)
