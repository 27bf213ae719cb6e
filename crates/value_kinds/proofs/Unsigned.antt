-- Decimal numbers without a minus sign.
use Rattle.std.proofs.Common.{◌≡◌, ℕ, zero, suc, List, length, Bool, true, false, refl, arith}
use Rattle.std.proofs.Common.{pos}
use Rattle.std.specs.Prelude.{Result, Ok, Err, not, ◌==◌, if◌then◌else◌}
use Rattle.std.specs.Int.{is_negative}
use Rattle.std.proofs.lemmas.Bool.Decides.{nat_tests}
use Rattle.typed_fields.specs.declared.dec.Dec.{Dec}
use Rattle.typed_fields.specs.declared.fault.FieldFault.{FieldFault}
use Rattle.typed_fields.specs.declared.fault.FieldFault.TheVariants.{Empty, Form, Range}
use Rattle.typed_fields.specs.Dec.{read_dec, has_minus, is_dec_form, is_dec_bounded, signed}
use Rattle.typed_fields.specs.Dec.{units_of, whole_digits, fraction_digits}
use Rattle.value_kinds.specs.ValueKind.{if_in_range}

not_negative : (n : ℕ) → is_negative (pos n) ≡ false
not_negative zero = grind (arith, nat_tests)
not_negative (suc n) = grind (arith, nat_tests)

abbrev found : Bool → Bool → Bool → Bool → ℕ → Result Dec FieldFault
found empty form bounded minus units =
    if empty then Err Empty
    else (if form then (if bounded then Ok (record { units = signed minus units }) else Err Range)
    else Err Form)

by_found : (empty form bounded minus : Bool) (units : ℕ) → minus ≡ false
    → if_in_range (λ d. not (is_negative d.units)) (found empty form bounded minus units)
    ≡ found empty form bounded minus units
by_found true form bounded minus units none = refl
by_found false false bounded minus units none = refl
by_found false true false minus units none = refl
by_found false true true true units none = absurd cc
by_found false true true false units none = rw (not_negative units) refl

-- what they are read as is not negative
pub unsigned_in_range : (v : List ℕ) → has_minus v ≡ false
    → if_in_range (λ d. not (is_negative d.units)) (read_dec v) ≡ read_dec v
unsigned_in_range v none =
    by_found (length v == 0) (is_dec_form v) (is_dec_bounded v) (has_minus v)
    (units_of (whole_digits v) (fraction_digits v)) none
