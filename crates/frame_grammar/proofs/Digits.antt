-- Digits, as bytes from 48 to 57.
use Rattle.std.proofs.Common.{◌≡◌, ℕ, ◌+◌, ◌-◌, ◌*◌, ◌≤◌, List, [], ◌∷◌, ◌++◌, ◌∙◌, arith}
use Rattle.std.specs.Str.Parse.{digits_value}
use Rattle.std.proofs.lemmas.Bool.Decides.{nat_tests}
use Rattle.std.proofs.lemmas.Int.Digits.{digits_value_push}
use Rattle.std.proofs.lemmas.Str.{digit_value_digit}
use Rattle.frame_grammar.specs.Frame.{IsDigit}

pub digit_low : (b : ℕ) → IsDigit b → 48 ≤ b
digit_low b is = grind (arith, nat_tests)

pub digit_high : (b : ℕ) → IsDigit b → b ≤ 57
digit_high b is = grind (arith, nat_tests)

pub digit_is : (b : ℕ) → 48 ≤ b → b ≤ 57 → IsDigit b
digit_is b low high = grind (arith, nat_tests)

-- one digit more
pub value_push : (digits : List ℕ) (d : ℕ)
    → IsDigit d → digits_value 10 (digits ++ d ∷ []) ≡ 10 * digits_value 10 digits + (d - 48)
value_push digits d is =
    let last = digit_value_digit d (digit_low d is, digit_high d is) in
    digits_value_push 10 digits d ∙ omega (arith, last, digit_low d is)
