-- Own: the two directions of FIX 4.4.
use Rattle.std.specs.Prelude.{◌≡◌, ℕ, List, Option, None, Ok}
use Rattle.frame_grammar.specs.declared.frame.Kind.TheVariants.{Fix44, Fixt11}
use Rattle.field_groups.specs.Field.{Field}
use Rattle.message_tables.specs.Tables.{Message, Said}
use Rattle.order_meaning.specs.Book.{Book}
use Rattle.dict_fix44.specs.Message.{report_message44, request_message44}
use Rattle.dict_fix44.specs.Sense.{report44, request44}
use Rattle.dict_fix44.specs.Step.{step44}
use Rattle.dict_fix50.specs.Message.{message50}
use Rattle.dict_fix50.specs.Sense.{request50}
use Rattle.reports_fix50.specs.Sense.{report50}
use Rattle.reports_fix50.specs.Step.{step50}
use Rattle.translation.specs.Bodies as bodies
use Rattle.translation.specs.Bodies.{Direction}
use Rattle.translation.specs.Header.{head_down, type_of, with_content}
use Rattle.translation.specs.declared.error.TranslateError.{TranslateError}
use Rattle.report_translate.specs.Reading.{report_message}
use Rattle.translate_fix44.specs.declared.translate.Way.{Way}
use Rattle.translate_fix44.specs.declared.translate.Way.TheVariants.{Up, Down}
use Rattle.translate_fix44.specs.Rules.{down_content, down_message, up_content, up_message}

-- What fields of FIX 4.4, their request and the one that goes up of it have in common: the two mean
-- the same, and the fields that stand for these are by the tables of FIX 5.0 SP2 at no fault and
-- are the very request that was written, with the PossResend of the header.
pub record KeepsRequest (fields : List Field) (m w : Message) : Type 0 where
  pub means : request50 w ≡ request44 m
  pub read : message50 (type_of fields) (with_content fields (up_content m)) None ≡ Ok w

-- THE WAY UP of a request of FIX 4.4
abbrev pub up : Direction
up = record {
  kind = Fixt11;
  head = λ fields. fields;
  source = request_message44;
  goes = up_message;
  content = λ m w. up_content m;
  Kept = KeepsRequest;
}

-- The same of fields of FIX 5.0 SP2, with no order known besides; and the two reports change each
-- book alike.
pub record KeepsReport (fields : List Field) (m w : Message) : Type 0 where
  pub means : report44 w ≡ report50 m
  pub books : (book : Book) → step44 book w ≡ step50 book m
  pub read : report_message44 (type_of (head_down fields))
      (with_content (head_down fields) (down_content None m)) None ≡ Ok w

-- THE WAY DOWN of a report of FIX 5.0 SP2
abbrev pub down : Direction
down = record {
  kind = Fix44;
  head = head_down;
  source = report_message;
  goes = down_message None;
  content = λ m w. down_content None m;
  Kept = KeepsReport;
}

-- and where this id of its order is known besides
abbrev pub down_by : Said → Direction
down_by known =
    record down { goes = down_message known; content = λ m w. down_content known m }

abbrev pub direction : Way → Direction
direction Up = up
direction Down = down

-- the outcome of a check of a request, which judges no length
abbrev pub IsChecked : List ℕ → Option TranslateError → Type 0
IsChecked body checked = bodies.IsChecked up body checked
