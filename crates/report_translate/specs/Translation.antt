-- Own: what `translate down` makes of a body of FIX 5.0 SP2, and why it makes nothing of it.
use Rattle.std.specs.Prelude.{◌≡◌, ℕ, List, Option, Some, None, IsOk, Result, Ok}
use Rattle.frame_grammar.specs.declared.frame.Kind.TheVariants.{Fix42}
use Rattle.field_groups.specs.Field.{Field}
use Rattle.message_tables.specs.Tables.{Message}
use Rattle.order_meaning.specs.Book.{Book}
use Rattle.reports_fix42.specs.Message.{message42}
use Rattle.reports_fix42.specs.Sense.{report42}
use Rattle.reports_fix42.specs.Step.{step42}
use Rattle.reports_fix50.specs.Sense.{report50}
use Rattle.reports_fix50.specs.Step.{step50}
use Rattle.report_rules.specs.Rules.{down_message, written}
use Rattle.translation.specs.Bodies as bodies
use Rattle.translation.specs.Bodies.{Direction, IsFaulty, IsLacking, IsRead}
use Rattle.translation.specs.declared.error.TranslateError.{TranslateError}
use Rattle.translation.specs.declared.error.TranslateError.TheVariants as errors
use Rattle.translation.specs.Header.{head_down, type_of, with_content}
use Rattle.report_translate.specs.Reading.{report_message}

-- What fields of FIX 5.0 SP2, their message and the one that goes down of it have in common: the
-- two messages mean the same and change each book alike, and the fields that stand for these are by
-- the tables of FIX 4.2 at no fault and are the very report that was written, with the PossResend
-- of the header.
pub record IsKept (fields : List Field) (m w : Message) : Type 0 where
  pub means : report42 w ≡ report50 m
  pub books : (book : Book) → step42 book w ≡ step50 book m
  pub read : message42 (type_of (head_down fields)) (with_content (head_down fields) (written w))
      None ≡ Ok w

-- THE WAY DOWN: the report of a body of FIX 5.0 SP2 becomes the message of FIX 4.2 that the rules
-- make of it, whose content is written.
abbrev pub down : Direction
down = record {
  kind = Fix42;
  head = head_down;
  source = report_message;
  goes = down_message None;
  content = λ m w. written w;
  Kept = IsKept;
}

-- a frame of FIX 4.2 whose body stands for a body of FIX 5.0 SP2
abbrev pub IsTranslation : (body text : List ℕ) → Type 0
IsTranslation body text = bodies.IsTranslation down body text

-- THE OUTCOME of a body, and why it was refused
abbrev pub IsOutcome : List ℕ → Result (List ℕ) TranslateError → Type 0
IsOutcome body outcome = bodies.IsOutcome down body outcome

abbrev pub IsRefused : List ℕ → TranslateError → Type 0
IsRefused body error = bodies.IsRefused down body error

-- A body that goes down where the order of a cancel reject is known, whatever its original id is.
pub record IsKnown (body : List ℕ) (fields : List Field) : Type 0 where
  pub report : IsRead down body fields
  pub down : (id : List ℕ) → IsOk (down_message (Some id) report.message)

-- the outcome of a check, which judges no length, and takes a cancel reject without
-- OrigClOrdID (41): that lacks nothing where the order is known
abbrev pub IsChecked : List ℕ → Option TranslateError → Type 0
IsChecked body None = (fields : List Field) × IsKnown body fields
IsChecked body (Some (errors.Faulty fault)) = IsFaulty down body fault
IsChecked body (Some (errors.Lacking tag)) = (tag ≡ 150) × IsLacking down body 150
IsChecked body (Some error) = ⊥

-- why a check refused a body; want of memory says nothing of it
abbrev pub IsRefusedByCheck : List ℕ → TranslateError → Type 0
IsRefusedByCheck body errors.NoMemory = Unit {0}
IsRefusedByCheck body error = IsChecked body (Some error)
