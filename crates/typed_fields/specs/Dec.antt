-- Standard: float (FIX 4.2, Data Types), and with it Price and Qty: digits with an optional point
-- and an optional minus sign. Zeros may lead (00023.23 is 23.23), and zeros behind the point may
-- stand or be left out (23.0 is 23.0000 is 23 is 23.). Up to fifteen significant digits are held. A
-- value is exact: a whole number of units of 10^-8.
use Rattle.std.specs.Prelude.{◌≡◌, ℕ, ◌+◌, ◌-◌, ◌*◌, ◌/◌, ◌%◌, ◌^◌, ◌<◌, ◌≤◌, Bool, not, ◌&&◌, List}
use Rattle.std.specs.Prelude.{[], ◌∷◌, ◌++◌, length, drop, slice_index, Result, Ok, Err, nat_le, ◌==◌, ℤ}
use Rattle.std.specs.Prelude.{pos, neg_ℤ, unsigned_abs, if◌then◌else◌}
use Rattle.std.specs.Int.{is_negative}
use Rattle.std.specs.Fmt.{decimal}
use Rattle.std.specs.List.{before_first, after_first}
use Rattle.typed_fields.specs.declared.fault.FieldFault.{FieldFault}
use Rattle.typed_fields.specs.declared.dec.Dec.{Dec}
use Rattle.typed_fields.specs.Reading.{judged}
use Rattle.typed_fields.specs.Digits.{are_digits, number_of, zero_padded, without_leading_zeros}
use Rattle.typed_fields.specs.Digits.{without_trailing_zeros, or_zero}

-- whether the bytes begin with a minus sign, and what stands behind it
abbrev pub has_minus : List ℕ → Bool
has_minus bytes = slice_index bytes 0 == 45

abbrev pub without_minus : List ℕ → List ℕ
without_minus bytes = drop (if has_minus bytes then 1 else 0) bytes

-- what stands before the point, or all where there is none, and what stands behind it
abbrev pub is_point : ℕ → Bool
is_point byte = byte == 46

abbrev pub whole_part : List ℕ → List ℕ
whole_part bytes = before_first is_point (without_minus bytes)

abbrev pub fraction_part : List ℕ → List ℕ
fraction_part bytes = after_first is_point (without_minus bytes)

-- the form: digits but for the sign and the point, at least one digit, and at most 32 bytes
abbrev pub is_dec_form : List ℕ → Bool
is_dec_form bytes =
    nat_le (length bytes) 32
    && (are_digits (whole_part bytes) && (are_digits (fraction_part bytes)
    && not (length (whole_part bytes) + length (fraction_part bytes) == 0)))

-- the digits that count: no zeros in front of the whole part and none behind the fraction
abbrev pub whole_digits : List ℕ → List ℕ
whole_digits bytes = without_leading_zeros (whole_part bytes)

abbrev pub fraction_digits : List ℕ → List ℕ
fraction_digits bytes = without_trailing_zeros (fraction_part bytes)

-- the bound: at most 15 digits that count, of which at most 8 stand behind the point
abbrev pub is_dec_bounded : List ℕ → Bool
is_dec_bounded bytes =
    nat_le (length (whole_digits bytes) + length (fraction_digits bytes)) 15
    && nat_le (length (fraction_digits bytes)) 8

-- the units of 10^-8 of a whole part and a fraction of at most eight digits
abbrev pub units_of : List ℕ → List ℕ → ℕ
units_of whole fraction = number_of whole * 10 ^ 8 + number_of fraction * 10 ^ (8 - length fraction)

abbrev pub signed : Bool → ℕ → ℤ
signed minus magnitude = if minus then neg_ℤ (pos magnitude) else pos magnitude

-- the reading of a decimal number
abbrev pub read_dec : List ℕ → Result Dec FieldFault
read_dec bytes =
    judged bytes (is_dec_form bytes) (is_dec_bounded bytes)
    (record {
      units = signed (has_minus bytes) (units_of (whole_digits bytes) (fraction_digits bytes));
    })

-- a decimal number that can be read: a number of at most fifteen digits over a power of ten up to
-- 10^8
pub record IsDec (d : Dec) : Type 0 where
  pub digits : ℕ
  pub zeros : ℕ
  pub at_most_fifteen : digits < 10 ^ 15
  pub at_most_eight : zeros ≤ 8
  pub units : unsigned_abs d.units ≡ digits * 10 ^ zeros

-- the bytes are read as a number of units without a sign, that digits of its form can have
pub record ReadsPlain (bytes : List ℕ) (units : ℕ) : Type 0 where
  pub value : read_dec bytes ≡ Ok (record { units = pos units })
  pub bound : IsDec (record { units = pos units })
  pub small : units < 10 ^ 23

-- the sign, where there is one
abbrev pub sign_text : Bool → List ℕ
sign_text minus = if minus then 45 ∷ [] else []

-- a fraction's digits behind a point, or nothing where there are none
abbrev pub with_point : List ℕ → List ℕ
with_point [] = []
with_point (d ∷ ds) = 46 ∷ d ∷ ds

-- the one canonical spelling of a decimal number: no needless zeros, no minus sign of zero, a digit
-- before the point, and no point without a digit behind it
abbrev pub dec_text : Dec → List ℕ
dec_text d =
    let magnitude = unsigned_abs d.units in
    sign_text (is_negative d.units) ++ decimal (magnitude / 10 ^ 8)
    ++ with_point (without_trailing_zeros (zero_padded 8 (magnitude % 10 ^ 8)))

-- a spelling without its needless bytes
abbrev pub plain_dec : List ℕ → List ℕ
plain_dec bytes =
    sign_text
    (has_minus bytes && not (length (whole_digits bytes) + length (fraction_digits bytes) == 0))
    ++ or_zero (whole_digits bytes) ++ with_point (fraction_digits bytes)

-- bytes are the canonical spelling of a number without a sign, of so many units
pub record SpellsItself (bytes : List ℕ) : Type 0 where
  pub units : ℕ
  pub plain : ReadsPlain bytes units
  pub text : dec_text (record { units = pos units }) ≡ bytes

-- what is appended of the number that bytes spell
pub record Respells (bytes before after : List ℕ) : Type 0 where
  pub dec : Dec
  pub read : read_dec bytes ≡ Ok dec
  pub appended : after ≡ before ++ dec_text dec

-- nothing, where they spell none
pub record SpellsNone (bytes before after : List ℕ) (fault : FieldFault) : Type 0 where
  pub read : read_dec bytes ≡ Err fault
  pub same : after ≡ before
