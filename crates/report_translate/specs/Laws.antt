-- Own: what holds of the translations of reports.
use Rattle.std.specs.Prelude.{◌≡◌, ℕ, List, None, Ok}
use Rattle.frame_grammar.specs.declared.frame.Kind.TheVariants.{Fix42, Fixt11}
use Rattle.frame_grammar.specs.Frame.{IsFrame}
use Rattle.field_groups.specs.Field.{Field}
use Rattle.field_groups.specs.Fields.{SplitsInto}
use Rattle.message_tables.specs.Tables.{Message}
use Rattle.order_meaning.specs.Book.{Book}
use Rattle.reports_fix42.specs.Message.{message42}
use Rattle.reports_fix42.specs.Sense.{report42}
use Rattle.reports_fix42.specs.Step.{step42}
use Rattle.reports_fix50.specs.Sense.{report50}
use Rattle.reports_fix50.specs.Step.{step50}
use Rattle.translation.specs.Header.{type_of}
use Rattle.report_translate.specs.Reading.{report_message}
use Rattle.report_translate.specs.Translation.{IsTranslation}

-- fields of FIX 5.0 SP2 and fields of FIX 4.2 are read as reports that mean the same, and change
-- each book alike
pub record MeanTheSame (fields others : List Field) : Type 0 where
  pub venue : Message
  pub client : Message
  pub told : report_message (type_of fields) fields None ≡ Ok venue
  pub read : message42 (type_of others) others None ≡ Ok client
  pub means : report42 client ≡ report50 venue
  pub books : (book : Book) → step42 book client ≡ step50 book venue

-- so are two bodies, whatever fields they are split into
abbrev pub KeepSense : List ℕ → List ℕ → Type 0
KeepSense body down = (fields others : List Field) → SplitsInto body fields None
    → SplitsInto down others None → MeanTheSame fields others

-- A frame of FIXT 1.1 and one of FIX 4.2 that is its translation mean the same, whatever bodies
-- they are read as.
abbrev pub FramesKeepSense : Type 0
FramesKeepSense = (body input text : List ℕ) → IsFrame Fixt11 body input → IsTranslation body text
    → (other down : List ℕ) → IsFrame Fixt11 other input → IsFrame Fix42 down text
    → KeepSense other down
