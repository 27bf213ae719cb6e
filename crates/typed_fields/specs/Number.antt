-- Standard: int (FIX 4.2, Data Types) without a sign; in FIX 5.0 SP2 Length, NumInGroup and SeqNum.
-- Zeros may lead: 00023 is 23.
use Rattle.std.specs.Prelude.{ℕ, ◌≤◌, ◌&&◌, Bool, List, length, Result, nat_le}
use Rattle.std.specs.Fmt.{decimal}
use Rattle.typed_fields.specs.declared.fault.FieldFault.{FieldFault}
use Rattle.typed_fields.specs.declared.number.Number.{Number}
use Rattle.typed_fields.specs.Reading.{judged}
use Rattle.typed_fields.specs.Digits.{are_digits, number_of, without_leading_zeros, or_zero}

-- the form: 1 to 10 digits (that there is one byte at all is judged before)
abbrev pub is_number_form : List ℕ → Bool
is_number_form bytes = are_digits bytes && nat_le (length bytes) 10

-- the reading of a number, of at most 1,000,000,000
abbrev pub read_number : List ℕ → Result Number FieldFault
read_number bytes =
    judged bytes (is_number_form bytes)
    (nat_le (number_of bytes) 1_000_000_000) (record { value = number_of bytes })

-- a number that can be read
abbrev pub IsNumber : Number → Type 0
IsNumber n = n.value ≤ 1_000_000_000

-- the one canonical spelling of a number, with no leading zeros
abbrev pub number_text : Number → List ℕ
number_text n = decimal n.value

-- a spelling without its needless zeros
abbrev pub plain_number : List ℕ → List ℕ
plain_number bytes = or_zero (without_leading_zeros bytes)
