-- Own: what the check of a refusal finds, in any version: that it is good, or its first fault.
use Rattle.std.specs.Prelude.{◌≡◌, ℕ, List, Option, Some, None, Result, Ok, Err}
use Rattle.field_groups.specs.declared.fault.SplitFault.{SplitFault}
use Rattle.field_groups.specs.Field.{Field}
use Rattle.field_groups.specs.Fields.{SplitsInto}
use Rattle.message_tables.specs.Tables.{Message}
use Rattle.order_meaning.specs.declared.fault.Fault.{Fault}
use Rattle.translation.specs.declared.error.TranslateError.{TranslateError}
use Rattle.translation.specs.declared.error.TranslateError.TheVariants as errors
use Rattle.translation.specs.Header.{type_of}

-- of a version in which a MsgType and the fields of a body are this refusal, with the fault that
-- stopped them, if any; or the first fault
module _ (refusal : List ℕ → List Field → Option SplitFault → Result Message Fault) where
  -- a body that is read as a refusal, at no fault
  pub record IsGoodRefusal (body : List ℕ) : Type 0 where
    pub fields : List Field
    pub message : Message
    pub split : SplitsInto body fields None
    pub read : refusal (type_of fields) fields None ≡ Ok message

  -- a body that has this first fault, or whose type is neither 3 nor j
  pub record HasFault (body : List ℕ) (fault : Fault) : Type 0 where
    pub fields : List Field
    pub stopped : Option SplitFault
    pub split : SplitsInto body fields stopped
    pub read : refusal (type_of fields) fields stopped ≡ Err fault

  -- THE OUTCOME of a check of a refusal
  abbrev pub IsCheckedRefusal : List ℕ → Option TranslateError → Type 0
  IsCheckedRefusal body None = IsGoodRefusal body
  IsCheckedRefusal body (Some (errors.Faulty fault)) = HasFault body fault
  IsCheckedRefusal body (Some error) = ⊥

  -- why a refusal is not good; want of memory says nothing of it
  abbrev pub IsFaultyRefusal : List ℕ → TranslateError → Type 0
  IsFaultyRefusal body errors.NoMemory = Unit {0}
  IsFaultyRefusal body error = IsCheckedRefusal body (Some error)
