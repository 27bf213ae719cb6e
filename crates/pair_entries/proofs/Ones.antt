-- What the two comparisons of a new day say.
use Rattle.std.proofs.Common.{◌≡◌, ◌==◌, ◌&&◌, not, ℕ, Bool, true, false, List, [], ◌∷◌, length}
use Rattle.std.proofs.Common.{refl, arith}
use Rattle.std.proofs.lemmas.Bool.{eqb-true}
use Rattle.pair_entries.specs.Payload.{Next}

undone : (x : Bool) → not x ≡ false → x ≡ true
undone true is = refl
undone false is = absurd (cc is)

both : (x y : Bool) → (x && y) ≡ true → (x ≡ true) × (y ≡ true)
both true true is = (refl, refl)
both true false is = absurd (cc is)
both false y is = absurd (cc is)

four : (k l m n : ℕ) → k ≡ 1 → l ≡ 1 → m ≡ 1 → n ≡ 1
    → ◌≡◌ {A = Next} (k, l, m, n) (1, 1, 1, 1)
four k l m n hk hl hm hn = cc

pub are_ones : (k l m n : ℕ) → not (((k == 1 && l == 1) && m == 1) && n == 1) ≡ false
    → ◌≡◌ {A = Next} (k, l, m, n) (1, 1, 1, 1)
are_ones k l m n is =
    let three = both _ (n == 1) (undone _ is) in
    let two = both _ (m == 1) three.0 in
    let one = both (k == 1) (l == 1) two.0 in
    four k l m n (eqb-true k 1 one.0) (eqb-true l 1 one.1) (eqb-true m 1 two.1)
    (eqb-true n 1 three.1)

pub is_nil : {A : Type 0} → (xs : List A) → (length xs == 0) ≡ true → xs ≡ []
is_nil [] is = refl
is_nil (x ∷ xs) is = absurd (omega (arith, eqb-true (length (x ∷ xs)) 0 is))
