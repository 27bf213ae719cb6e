-- Standard: FIX 4.2, "Reject (session-level)", SessionRejectReason(373).
--
-- Why a field that must be there is wrong. It is missing, or empty, or has a wrong form, or its
-- value is out of range; the first of these counts.
use Rattle.std.specs.Prelude.{ℕ, ◌==◌, ◌&&◌, ◌||◌, List, length, nat_le, Some, None, Ok, Err}
use Rattle.std.specs.Prelude.{if◌then◌else◌}
use Rattle.std.specs.declared.option.Option.{Option}
use Rattle.std.specs.declared.result.Result.{Result}
use Rattle.typed_fields.specs.declared.fault.FieldFault.{FieldFault}
use Rattle.typed_fields.specs.declared.fault.FieldFault.TheVariants.{Empty, Form, Range}
use Rattle.typed_fields.specs.declared.number.Number.{Number}
use Rattle.typed_fields.specs.Number.{read_number}
use Rattle.session_core.specs.declared.reason.TheConstants.{REQUIRED_TAG_MISSING}
use Rattle.session_core.specs.declared.reason.TheConstants.{TAG_WITHOUT_A_VALUE}
use Rattle.session_core.specs.declared.reason.TheConstants.{INCORRECT_DATA_FORMAT}
use Rattle.session_core.specs.declared.reason.TheConstants.{VALUE_IS_INCORRECT}
use Rattle.session_logon.specs.declared.reasons.TheConstants.{MAX_TEXT}

abbrev pub reason_of : FieldFault → ℕ
reason_of Empty = TAG_WITHOUT_A_VALUE
reason_of Form = INCORRECT_DATA_FORMAT
reason_of Range = VALUE_IS_INCORRECT

-- the value that was read, or the reason
abbrev pub or_reason : {A : Type 0} → Result A FieldFault → Result A ℕ
or_reason (Ok value) = Ok value
or_reason (Err fault) = Err (reason_of fault)

-- the same of a field that may be missing
abbrev pub required : {A : Type 0} → (List ℕ → Result A FieldFault) → Option (List ℕ) → Result A ℕ
required read None = Err REQUIRED_TAG_MISSING
required read (Some value) = or_reason (read value)

-- a number from the least to the greatest
abbrev pub between : ℕ → ℕ → Result Number FieldFault → Result ℕ FieldFault
between least greatest (Ok n) =
    if nat_le least n.value && nat_le n.value greatest then Ok n.value else Err Range
between least greatest (Err fault) = Err fault

abbrev pub read_between : ℕ → ℕ → List ℕ → Result ℕ FieldFault
read_between least greatest value = between least greatest (read_number value)

-- a number that is 0, or the least or more
abbrev pub zero_or_from : ℕ → Result Number FieldFault → Result ℕ FieldFault
zero_or_from least (Ok n) = if n.value == 0 || nat_le least n.value then Ok n.value else Err Range
zero_or_from least (Err fault) = Err fault

abbrev pub read_zero_or_from : ℕ → List ℕ → Result ℕ FieldFault
read_zero_or_from least value = zero_or_from least (read_number value)

-- why a text is wrong, which has 1 to 2,048 bytes
abbrev pub text_fault : Option (List ℕ) → Option ℕ
text_fault None = Some REQUIRED_TAG_MISSING
text_fault (Some value) =
    if length value == 0 then Some TAG_WITHOUT_A_VALUE
    else (if nat_le (length value) MAX_TEXT then None else Some VALUE_IS_INCORRECT)
