-- The sum of a part of a list, from the sums of its fronts.
use Rattle.std.proofs.Common.{◌≡◌, ℕ, ◌+◌, ◌-◌, ◌%◌, List, take, drop, ◌∙◌, ap, arith}
use Rattle.std.specs.Prelude.{sum}
use Rattle.std.proofs.Math.Seq.{take-add}
use Rattle.std.proofs.lemmas.List.Sums.{sum_by-append}

pub sum_part : (xs : List ℕ) (i n : ℕ)
    → sum (take (i + n) xs) ≡ sum (take i xs) + sum (take n (drop i xs))
sum_part xs i n = ap sum (take-add i n xs) ∙ sum_by-append (λ x. x) (take i xs) (take n (drop i xs))

-- a sum goes on, modulo 256
pub sum_more : (a b : ℕ) → (a % 256 + b % 256) % 256 ≡ (a + b) % 256
sum_more a b = omega arith

-- a sum from a front and a back, and what two fronts differ by
pub sum_between : (front before last back part : ℕ) → part + before ≡ last + back + front
    → ((front % 256 + (last % 256 + (256 - before % 256)) % 256) % 256 + back % 256) % 256
    ≡ part % 256
sum_between front before last back part same = omega arith
