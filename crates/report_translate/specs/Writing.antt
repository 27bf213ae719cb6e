-- Inside: what is known on the way from a body to what a check answers of it.
use Rattle.std.specs.Prelude.{◌≡◌, ℕ, Bool, true, List, Option, Some, None, IsOk, Result, Ok, Err}
use Rattle.field_groups.specs.declared.fault.SplitFault.{SplitFault}
use Rattle.field_groups.specs.Field.{Field}
use Rattle.message_tables.specs.Tables.{Message, ◌>>=◌, code_of}
use Rattle.order_meaning.specs.declared.fault.Fault.{Fault}
use Rattle.order_meaning.specs.declared.refusal.Refusal.{Refusal}
use Rattle.first_faults.specs.Gives.{Tells}
use Rattle.reports_fix50.specs.Reading.{exec_type_said}
use Rattle.report_rules.specs.Rules.{down_message, lacks_type}
use Rattle.translation.specs.Going.{AreRead, StayBack}
use Rattle.translation.specs.declared.error.TranslateError.{TranslateError}
use Rattle.translation.specs.declared.error.TranslateError.TheVariants as errors
use Rattle.report_translate.specs.Translation.{down}

-- fields that go down where the order of a cancel reject is known
pub record IsCheckedOf (fields : List Field) (stopped : Option SplitFault) : Type 0 where
  pub message : Message
  pub read : AreRead down fields stopped message
  pub down : (id : List ℕ) → IsOk (down_message (Some id) message)

-- why they do not
abbrev pub RefusesCheck : List Field → Option SplitFault → TranslateError → Type 0
RefusesCheck fields stopped (errors.Lacking tag) = (tag ≡ 150) × (message : Message)
    × AreRead down fields stopped message × (down_message None message ≡ Err 150)
RefusesCheck fields stopped error = StayBack down fields stopped error

-- whether FIX 4.2 has no counterpart of the ExecType of an execution report
abbrev pub lacks_at : List Field → Bool
lacks_at fields = lacks_type (exec_type_said fields >>= code_of)

abbrev pub LacksAt : List Field → TranslateError → Type 0
LacksAt fields (errors.Lacking tag) = (tag ≡ 150) × (lacks_at fields ≡ true)
LacksAt fields error = ⊥

-- what an answer of a reading says of the refusal that fields are: there is one, or its first fault
abbrev pub IsReadAs : Result Refusal Fault → Result Message Fault → Type 0
IsReadAs (Ok refusal) message = (m : Message) × (message ≡ Ok m)
IsReadAs (Err fault) message = Tells fault message
