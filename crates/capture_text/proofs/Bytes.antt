-- Texts told apart by a byte, and tests.
use Rattle.std.proofs.Common.{◌≡◌, ℕ, List, get_or, drop, ap, Bool, true, false, nat_eq}
use Rattle.std.proofs.lemmas.Bool.{eqb-false}

-- equal texts have one byte at each place
pub differ : (place : ℕ) {xs ys : List ℕ} → xs ≡ ys
    → nat_eq (get_or xs place 0) (get_or ys place 0) ≡ false → ⊥
differ place is other = eqb-false _ _ other (ap (λ (l : List ℕ). get_or l place 0) is)

pub behind : (place : ℕ) {xs ys : List ℕ} → xs ≡ ys → drop place xs ≡ drop place ys
behind place is = ap (λ (l : List ℕ). drop place l) is

-- a test that is false is not true
pub not_both : (test : Bool) → test ≡ false → test ≡ true → ⊥
not_both test is also = absurd (cc (is, also))
