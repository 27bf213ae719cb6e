-- What the check of a refusal answers, by what its fields are.
use Rattle.std.proofs.Common.{◌≡◌, ℕ, List, Option, Ok, sym, subst}
use Rattle.field_groups.specs.declared.fault.SplitFault.{SplitFault}
use Rattle.field_groups.specs.Field.{Field}
use Rattle.field_groups.specs.Fields.{SplitsInto}
use Rattle.message_tables.specs.Tables.{Message}
use Rattle.order_meaning.specs.declared.Side.{Side}
use Rattle.order_meaning.specs.declared.fault.Fault.{Fault}
use Rattle.order_meaning.specs.declared.fault.Fault.TheVariants as faults
use Rattle.first_faults.specs.Gives.{Tells}
use Rattle.translation.specs.declared.error.TranslateError.{TranslateError}
use Rattle.translation.specs.Errors.{error_of_fault}
use Rattle.translation.specs.Header.{type_of}
use Rattle.report_translate.specs.Reading.{refusal_message}
use Rattle.report_translate.specs.Refusals.{IsGoodRefusal, IsFaultyRefusal}
use Rattle.report_translate.proofs.OfType.{whole_refusal}

module _ (side : Side) (body : List ℕ) (fields : List Field)
    (stopped : Option SplitFault) (split : SplitsInto body fields stopped) where
  pub faulty : (fault : Fault) (error : TranslateError) → error ≡ error_of_fault fault
      → Tells fault (refusal_message side (type_of fields) fields stopped)
      → IsFaultyRefusal (refusal_message side) body error
  faulty fault error same told =
      let P : TranslateError → Type 0 = λ e. IsFaultyRefusal (refusal_message side) body e in
      subst P (sym same) (by fault told)
    where
      by : (fault : Fault) → Tells fault (refusal_message side (type_of fields) fields stopped)
          → IsFaultyRefusal (refusal_message side) body (error_of_fault fault)
      by faults.NoMemory told = tt
      by other told =
          record { fields = fields; stopped = stopped; split = split; read = told }

  pub good : (x : Message) → refusal_message side (type_of fields) fields stopped ≡ Ok x
      → IsGoodRefusal (refusal_message side) body
  good x is =
      let none = whole_refusal (type_of fields) fields stopped side x is in
      record { fields = fields; message = x; split = rw none at split; read = rw none at is }

pub ruleset judged = (good, faulty)
