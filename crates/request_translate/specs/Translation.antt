-- Own: what `translate up` makes of a body of FIX 4.2, and why it makes nothing of it.
use Rattle.std.specs.Prelude.{◌≡◌, ℕ, List, Option, None, Result, IsTrue, is_some}
use Rattle.frame_grammar.specs.declared.frame.Kind.TheVariants.{Fixt11}
use Rattle.field_groups.specs.Field.{Field}
use Rattle.field_groups.specs.Fields.{SplitsInto}
use Rattle.message_tables.specs.Tables.{Message}
use Rattle.rule_rows.specs.ByRules.{or_lack}
use Rattle.dict_fix42.specs.Message.{message42}
use Rattle.dict_fix42.specs.Sense.{sense42, request42}
use Rattle.dict_fix50.specs.Sense.{sense50, request50}
use Rattle.translation.specs.Bodies as bodies
use Rattle.translation.specs.Bodies.{Direction}
use Rattle.translation.specs.declared.error.TranslateError.{TranslateError}
use Rattle.translation.specs.Header.{type_of, with_content}
pub use Rattle.request_rules.specs.Canonical.{IsRequest}
use Rattle.request_rules.specs.Lack.{lack42}
use Rattle.request_rules.specs.Rules.{up_content, up_message}

-- What fields of FIX 4.2, their message and the one that goes up of it have in common: what is
-- written is the content of a canonical request, and it means what the message means; and so do the
-- fields that stand for these.
pub record IsKept (fields : List Field) (m w : Message) : Type 0 where
  pub canonical : IsRequest w (up_content m)
  pub means : request50 w ≡ request42 m
  pub same : sense50 (type_of fields) (with_content fields (up_content m))
      ≡ sense42 (type_of fields) fields

-- THE WAY UP: the message of a body of FIX 4.2 becomes the one that goes up of it, where it lacks
-- nothing in FIX 5.0 SP2, and its content is what the rules write of it.
abbrev pub up : Direction
up = record {
  kind = Fixt11;
  head = λ fields. fields;
  source = message42;
  goes = λ m. or_lack (lack42 m) (up_message m);
  content = λ m w. up_content m;
  Kept = IsKept;
}

-- Two bodies, one of FIX 4.2 and one of FIX 5.0 SP2, mean the same request: whatever fields they
-- are read as, what those mean is equal, and they mean something.
abbrev pub KeepSense : List ℕ → List ℕ → Type 0
KeepSense body other =
    (fields others : List Field) → SplitsInto body fields None → SplitsInto other others None →
    (sense50 (type_of others) others ≡ sense42 (type_of fields) fields)
    × IsTrue (is_some (sense42 (type_of fields) fields))

-- a frame of FIXT 1.1 whose body stands for a body of FIX 4.2
abbrev pub IsTranslation : (body text : List ℕ) → Type 0
IsTranslation body text = bodies.IsTranslation up body text

-- THE OUTCOME of a body, and why it was refused
abbrev pub IsOutcome : List ℕ → Result (List ℕ) TranslateError → Type 0
IsOutcome body outcome = bodies.IsOutcome up body outcome

abbrev pub IsRefused : List ℕ → TranslateError → Type 0
IsRefused body error = bodies.IsRefused up body error

-- the outcome of a check, which judges no length, and why a body was refused by it
abbrev pub IsChecked : List ℕ → Option TranslateError → Type 0
IsChecked body checked = bodies.IsChecked up body checked

abbrev pub IsRefusedByCheck : List ℕ → TranslateError → Type 0
IsRefusedByCheck body error = bodies.IsRefusedByCheck up body error
