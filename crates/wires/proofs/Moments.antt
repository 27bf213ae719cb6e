-- The moment of a clock as an element of its list.
use Rattle.std.proofs.Common.{◌≡◌, ℕ, ◌-◌, zero, suc, min, List, [], ◌∷◌, length, get_or}
use Rattle.std.proofs.Common.{refl, ap, arith}
use Rattle.wires.specs.Clock.{moment_at}

pub moment_is : (moments : List ℕ) (after : ℕ)
    → moment_at moments after ≡ get_or moments (min after (length moments - 1)) 0
moment_is [] after = refl
moment_is (moment ∷ []) after =
    let e : 0 ≡ min after 0 = omega arith in ap (λ i. get_or (moment ∷ []) i 0) e
moment_is (moment ∷ next ∷ rest) zero =
    let e : 0 ≡ min 0 (length (moment ∷ next ∷ rest) - 1) = omega arith in
    ap (λ i. get_or (moment ∷ next ∷ rest) i 0) e
moment_is (moment ∷ next ∷ rest) (suc after) =
    let e : suc (min after (length (next ∷ rest) - 1))
    ≡ min (suc after) (length (moment ∷ next ∷ rest) - 1) = omega arith in
    rw (← e) (moment_is (next ∷ rest) after)
