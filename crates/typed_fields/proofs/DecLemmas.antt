-- Decimal numbers: their units and their spellings.
use Rattle.std.proofs.Common.{◌≡◌, ◌==◌, nat_le, Ok, to_z, of_z, pow-add, ℕ, zero, suc, ◌+◌, ◌-◌}
use Rattle.std.proofs.Common.{◌*◌, ◌/◌, ◌^◌, ◌<◌, ◌≤◌, Bool, true, false, List, ◌++◌, length}
use Rattle.std.proofs.Common.{refl}
use Rattle.std.proofs.Common.{sym, ap, ◌∙◌, arith, unsigned_abs}
use Rattle.std.proofs.lemmas.List.{length-append}
use Rattle.std.proofs.lemmas.Nat.{mul-le}
use Rattle.std.proofs.Math.Nat.{pow-le-pow_right}
use Rattle.std.specs.Int.{w128}
use Rattle.std.specs.Prelude.{◌%◌}
use Rattle.std.proofs.lemmas.Bool.Decides.{nat_tests}
use Rattle.jiff_core.proofs.SignedLemmas.{back_small}
use Rattle.typed_fields.specs.declared.dec.Dec.{Dec}
use Rattle.typed_fields.specs.Digits.{are_digits, number_of, without_leading_zeros}
use Rattle.typed_fields.specs.Digits.{without_trailing_zeros, zero_padded}
use Rattle.typed_fields.specs.Dec.{whole_part, fraction_part, whole_digits, fraction_digits}
use Rattle.typed_fields.specs.Dec.{has_minus, units_of, signed, read_dec, IsDec}
use Rattle.typed_fields.proofs.DigitsLemmas.{number_of-append, number_of-lt, are_digits-append}

-- the magnitude of a signed number
unsigned_abs-signed : (minus : Bool) (n : ℕ) → unsigned_abs (signed minus n) ≡ n
unsigned_abs-signed true zero = refl
unsigned_abs-signed true (suc n) = refl
unsigned_abs-signed false n = refl

joined_shifted : (w f l e t j : ℕ) → l * e ≡ t → j ≡ w * l + f → w * t + f * e ≡ j * e
joined_shifted w f l e t j p q = rw (← p, q) (omega arith)

-- the units of a whole part and a fraction are the number of all digits, with zeros behind them
pub units_of-is : (w f : List ℕ)
    → length f ≤ 8 → units_of w f ≡ number_of (w ++ f) * 10 ^ (8 - length f)
units_of-is w f places =
    let power : 10 ^ length f * 10 ^ (8 - length f) ≡ 10 ^ 8 =
    sym (pow-add 10 (length f) (8 - length f))
    ∙ ap (λ k. 10 ^ k) (let e : length f + (8 - length f) ≡ 8 = omega arith in e) in
    joined_shifted (number_of w) (number_of f) (10 ^ length f)
    (10 ^ (8 - length f)) (10 ^ 8) (number_of (w ++ f)) power (number_of-append w f)

-- a decimal number of at most fifteen digits can be read
pub IsDec-units_of : (minus : Bool) (w f : List ℕ)
    → are_digits w ≡ true → are_digits f ≡ true → length w + length f ≤ 15
    → length f ≤ 8 → IsDec (record { units = signed minus (units_of w f) })
IsDec-units_of minus w f h k few places = record {
  digits = number_of (w ++ f);
  zeros = 8 - length f;
  at_most_fifteen =
      number_of-lt (w ++ f) 15 (are_digits-append w f h k) (rw (length-append w f) few);
  at_most_eight = omega arith;
  units = unsigned_abs-signed minus (units_of w f) ∙ units_of-is w f places;
}

-- its units are below 10^23
pub units-lt : (d : Dec) → IsDec d → unsigned_abs d.units < 10 ^ 23
units-lt d h =
    let power : 10 ^ h.zeros ≤ 10 ^ 8 = pow-le-pow_right (omega arith) h.at_most_eight in
    let most : h.digits * 10 ^ h.zeros ≤ 999_999_999_999_999 * 10 ^ 8 =
    mul-le h.digits
    (10 ^ h.zeros) 999_999_999_999_999 (10 ^ 8) (omega (arith, h.at_most_fifteen)) power in
    omega (arith, h.units)

pub units_of-lt : (w f : List ℕ) → are_digits w ≡ true
    → are_digits f ≡ true → length w + length f ≤ 15 → length f ≤ 8 → units_of w f < 10 ^ 23
units_of-lt w f h k few places =
    units-lt
    (record { units = signed false (units_of w f) }) (IsDec-units_of false w f h k few places)

-- such a number fits 128 bits
pub signed_fits : (minus : Bool) (n : ℕ)
    → n < 10 ^ 23 → to_z w128 (of_z w128 (signed minus n)) ≡ signed minus n
signed_fits minus n h =
    back_small w128 (signed minus n) (rw (unsigned_abs-signed minus n) (omega arith))

-- what bytes of the form and within the bound are read as
pub read_dec-good : (v : List ℕ) → (length v == 0) ≡ false
    → length v ≤ 32 → are_digits (whole_part v) ≡ true → are_digits (fraction_part v) ≡ true
    → (length (whole_part v) + length (fraction_part v) ≡ 0 → ⊥)
    → length (whole_digits v) + length (fraction_digits v) ≤ 15 → length (fraction_digits v) ≤ 8
    → read_dec v ≡ Ok
    (record { units = signed (has_minus v) (units_of (whole_digits v) (fraction_digits v)) })
read_dec-good v not_empty long whole fraction any few places =
    let short : nat_le (length v) 32 ≡ true = grind (arith, nat_tests) in
    let a_digit : (length (whole_part v) + length (fraction_part v) == 0) ≡ false =
    grind (arith, nat_tests) in
    let fifteen : nat_le (length (whole_digits v) + length (fraction_digits v)) 15 ≡ true =
    grind (arith, nat_tests) in
    let eight : nat_le (length (fraction_digits v)) 8 ≡ true = grind (arith, nat_tests) in
    rw (not_empty, short, whole, fraction, a_digit, fifteen, eight)

-- the same, of the parts that the reading finds
pub read_dec-found : (v w f kept_w kept_f : List ℕ)
    → (length v == 0) ≡ false → length v ≤ 32 → w ≡ whole_part v → f ≡ fraction_part v
    → are_digits w ≡ true → are_digits f ≡ true → (length w + length f ≡ 0 → ⊥)
    → kept_w ≡ without_leading_zeros w → kept_f ≡ without_trailing_zeros f
    → length kept_w + length kept_f ≤ 15 → length kept_f ≤ 8
    → Ok (record { units = signed (has_minus v) (units_of kept_w kept_f) }) ≡ read_dec v
read_dec-found
    v w f kept_w kept_f not_empty long is_w is_f whole fraction any is_kept_w is_kept_f few places =
    let whole' = rw is_w at whole in
    let fraction' = rw is_f at fraction in
    let any' = rw (is_w, is_f) at any in
    let kept_w' : kept_w ≡ whole_digits v = is_kept_w ∙ ap without_leading_zeros is_w in
    let kept_f' : kept_f ≡ fraction_digits v = is_kept_f ∙ ap without_trailing_zeros is_f in
    let few' = rw (kept_w', kept_f') at few in
    let places' = rw kept_f' at places in
    rw (kept_w', kept_f') (sym (read_dec-good v not_empty long whole' fraction' any' few' places'))

-- and it fits its type
pub dec_fits : (d : Dec) → IsDec d → to_z w128 (of_z w128 d.units) ≡ d.units
dec_fits d h = back_small w128 d.units (omega (arith, units-lt d h))

-- a fraction of ten-thousandths has four digits, and zeros behind them
pub four_places : (n : ℕ) → n % 10_000 ≡ 0
    → without_trailing_zeros (zero_padded 4 (n / 10_000))
    ≡ without_trailing_zeros (zero_padded 8 n)
unfolding zero_padded without_trailing_zeros
four_places n none =
    let a : n / 10_000_000 % 10 ≡ n / 10_000 / 1000 % 10 = omega arith in
    let b : n / 1_000_000 % 10 ≡ n / 10_000 / 100 % 10 = omega arith in
    let c : n / 100_000 % 10 ≡ n / 10_000 / 10 % 10 = omega arith in
    let d : n / 10_000 % 10 ≡ n / 10_000 / 1 % 10 = omega arith in
    let e : n / 1000 % 10 ≡ 0 = omega arith in
    let f : n / 100 % 10 ≡ 0 = omega arith in
    let g : n / 10 % 10 ≡ 0 = omega arith in
    let h : n / 1 % 10 ≡ 0 = omega arith in
    rw (a, b, c, d, e, f, g, h) refl
