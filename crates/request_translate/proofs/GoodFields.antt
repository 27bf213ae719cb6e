-- What fields at no fault are written as, or lack.
use Rattle.std.proofs.Common.{◌≡◌, ℕ, List, Option, Some, None, ap}
use Rattle.std.specs.Prelude.{Err}
use Rattle.field_groups.specs.declared.fault.SplitFault.{SplitFault}
use Rattle.field_groups.specs.Field.{Field}
use Rattle.message_tables.specs.Tables.{Message}
use Rattle.rule_rows.specs.ByRules.{or_lack}
use Rattle.dict_fix42.specs.Message.{message42}
use Rattle.order_meaning.specs.declared.fault.Fault.{Fault}
use Rattle.order_meaning.specs.declared.fault.Fault.TheVariants as faults
use Rattle.order_meaning.specs.declared.fault.Lack.{Lack}
use Rattle.order_meaning.specs.declared.fault.Lack.TheVariants as lacks
use Rattle.translation.specs.Errors.{error_of_fault, error_of_lack}
use Rattle.translation.specs.Going.{Appends, AreGone, AreRead, StayBack}
use Rattle.translation.specs.Header.{type_of}
use Rattle.translation.specs.declared.error.TranslateError.TheVariants as errors
use Rattle.request_rules.specs.Good.{IsRead}
use Rattle.request_rules.specs.Lack.{lack42}
use Rattle.request_rules.specs.Put.{IsPut, Lacks}
use Rattle.request_rules.specs.Rules.{up_message}
use Rattle.request_translate.specs.Translation.{up}

module _ (fields : List Field) (stopped : Option SplitFault) where
  pub fault_is : (fault : Fault) → message42 (type_of fields) fields stopped ≡ Err fault
      → StayBack up fields stopped (error_of_fault fault)
  fault_is faults.NoMemory h = tt
  fault_is other h = h

  module _ (m : Message) (read : IsRead (type_of fields) fields stopped m) where
    are_read : AreRead up fields stopped m
    are_read = record { whole = read.whole; read = read.read }

    pub checked : lack42 m ≡ None → AreGone up fields stopped
    checked h = record {
      m = m;
      w = up_message m;
      read = are_read;
      goes = ap (λ (lack : Option ℕ). or_lack lack (up_message m)) h;
    }

    pub lacking : (tag : ℕ) → lack42 m ≡ Some tag → StayBack up fields stopped (errors.Lacking tag)
    lacking tag h = (m, are_read, ap (λ (lack : Option ℕ). or_lack lack (up_message m)) h)

    pub appends : (before after : List ℕ) → IsPut m before after
        → Appends up fields stopped before after
    unfolding checked
    appends before after put = record { gone = checked put.said; bytes = put.bytes }

    pub refuses : (lack : Lack) → Lacks m lack → StayBack up fields stopped (error_of_lack lack)
    refuses lacks.NoMemory h = tt
    refuses (lacks.Tag tag) h = lacking tag h

pub ruleset judged = (fault_is)

pub ruleset put = (refuses)
