-- Own: how a book changes by a message of FIX 5.0 SP2: by what the message means, and by nothing
-- else.
use Rattle.std.specs.Prelude.{◌≡◌}
use Rattle.message_tables.specs.Tables.{Message}
use Rattle.order_meaning.specs.Book.{Book}
use Rattle.order_meaning.specs.Meant.{step_if}
use Rattle.reports_fix50.specs.Sense.{report50}
use Rattle.reports_fix50.specs.Step.{step50}

-- A STEP IS BY THE MEANING; a message that means no report changes nothing.
abbrev pub StepsAreMeant : Type 0
StepsAreMeant = (book : Book) (m : Message) → step50 book m ≡ step_if book (report50 m)
