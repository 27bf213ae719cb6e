-- Numbers below a thousand, appended digit by digit.
use Rattle.std.proofs.Common.{◌≡◌, ℕ, ◌+◌, ◌<◌, ◌≤◌, List, ◌++◌, ◌∷◌, [], refl, arith, ap, ◌∙◌}
use Rattle.std.proofs.Common.{append_assoc, sym}
use Rattle.std.specs.Prelude.{◌/◌, ◌%◌}
use Rattle.std.specs.Fmt.{decimal}
use Rattle.std.proofs.lemmas.Fmt.{decimal_digit, decimal_step}
use Rattle.field_groups.specs.Field.{field_bytes}

two_digits : (n : ℕ) → 10 ≤ n → n < 100 → (48 + n / 10) ∷ (48 + n % 10) ∷ [] ≡ decimal n
two_digits n two most =
    rw (decimal_step n two (omega arith), decimal_digit (n / 10) (omega arith)) refl

three_digits : (n : ℕ) → 100 ≤ n → n < 1000
    → (48 + n / 100) ∷ (48 + n / 10 % 10) ∷ (48 + n % 10) ∷ [] ≡ decimal n
three_digits n three most =
    let parts : n / 10 / 10 ≡ n / 100 = omega arith in
    rw (
      decimal_step n (omega arith) (omega arith),
      decimal_step (n / 10) (omega arith) (omega arith),
      decimal_digit (n / 10 / 10) (omega arith),
      parts,
    ) refl

pub one_pushed : (old : List ℕ) (n : ℕ) → n < 10 → old ++ (48 + n) ∷ [] ≡ old ++ decimal n
one_pushed old n one = ap (λ (bytes : List ℕ). old ++ bytes) (sym (decimal_digit n one))

pub two_pushed : (old : List ℕ) (n : ℕ) → 10 ≤ n → n < 100
    → (old ++ (48 + n / 10) ∷ []) ++ (48 + n % 10) ∷ [] ≡ old ++ decimal n
two_pushed old n two most =
    append_assoc old ((48 + n / 10) ∷ []) ((48 + n % 10) ∷ [])
    ∙ ap (λ (bytes : List ℕ). old ++ bytes) (two_digits n two most)

pub three_pushed : (old : List ℕ) (n : ℕ) → 100 ≤ n → n < 1000
    → ((old ++ (48 + n / 100) ∷ []) ++ (48 + n / 10 % 10) ∷ []) ++ (48 + n % 10) ∷ []
    ≡ old ++ decimal n
three_pushed old n three most =
    let front = (48 + n / 100) ∷ [] in
    let tens = (48 + n / 10 % 10) ∷ [] in
    let ones = (48 + n % 10) ∷ [] in
    append_assoc (old ++ front) tens ones ∙ append_assoc old front (tens ++ ones)
    ∙ ap (λ (bytes : List ℕ). old ++ bytes) (three_digits n three most)

-- the field of a number of one digit
pub one_digit : (old : List ℕ) (tag n : ℕ) → n < 10
    → old ++ field_bytes (tag, (48 + n) ∷ []) ≡ old ++ field_bytes (tag, decimal n)
one_digit old tag n one =
    ap (λ (bytes : List ℕ). old ++ field_bytes (tag, bytes)) (sym (decimal_digit n one))
