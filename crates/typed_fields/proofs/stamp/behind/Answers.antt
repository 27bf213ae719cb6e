use Rattle.std.proofs.Common.{◌≡◌, ◌-◌, ℕ, List, length, take, drop, ap, ◌∙◌, arith}
use Rattle.std.proofs.lemmas.List.{take_all, length-drop}
use Rattle.typed_fields.specs.Digits.{are_digits, number_of}
use Rattle.typed_fields.proofs.DigitsLemmas.{number_of-lt}
use Rattle.typed_fields.proofs.stamp.behind.Goals as goal

-- the part to the end
to_end : (bytes : List ℕ) → take (length bytes - 18) (drop 18 bytes) ≡ drop 18 bytes
to_end bytes = take_all (length bytes - 18) (drop 18 bytes) (omega (arith, length-drop 18 bytes))

pub number-requires-clause-digits : goal.number-requires-clause-digits
number-requires-clause-digits c = ap are_digits (to_end c.args.bytes.now) ∙ c.requires.digits

pub number-requires-clause-few : goal.number-requires-clause-few
number-requires-clause-few c =
    omega (arith, ap (λ (ds : List ℕ). length ds) (to_end c.args.bytes.now), c.requires.few)

pub overflow_cast-result : goal.overflow_cast-result
overflow_cast-result c =
    let same = c.number.ensures ∙ ap number_of (to_end c.args.bytes.now) in
    omega (arith, same, number_of-lt (drop 18 c.args.bytes.now) 9 c.requires.digits c.requires.few)

pub returns : goal.returns
returns c = c.number.ensures ∙ ap number_of (to_end c.args.bytes.now)
