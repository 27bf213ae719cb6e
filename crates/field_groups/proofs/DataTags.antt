-- The tags of fields of raw bytes.
use Rattle.std.proofs.Common.{◌≡◌, ◌≢◌, ℕ, ◌+◌, ◌-◌, ◌<◌, ◌≤◌, ◌==◌, true, false, List, [], ◌∷◌}
use Rattle.std.proofs.Common.{refl, sym, arith}
use Rattle.std.specs.Prelude.{◌&&◌, ◌||◌, nat_le}
use Rattle.std.specs.List.{list_any, list_all}
use Rattle.std.proofs.lemmas.Bool.Decides.{nat_tests}
use Rattle.field_groups.specs.Data.{data_fields, is_data_pair}

none : (len tag : ℕ) → tag < 89 → (pairs : List (ℕ × ℕ))
    → list_all (λ pair. nat_le 89 pair.1) pairs ≡ true
    → list_any (λ pair. pair.0 == len && pair.1 == tag) pairs ≡ false
none len tag few [] h = refl
none len tag few (pair ∷ pairs) h =
    let rest = none len tag few pairs in grind (arith, nat_tests, rest)

-- a tag below the least of them
pub below : (len tag : ℕ) → tag < 89 → false ≡ is_data_pair len tag
unfolding is_data_pair
below len tag few = sym (none len tag few data_fields refl)

others : (len tag : ℕ) → tag ≢ 89 → 0 < tag → tag - 1 ≢ len → (pairs : List (ℕ × ℕ))
    → list_all (λ pair. pair.1 == 89 || pair.1 == pair.0 + 1) pairs ≡ true
    → list_any (λ pair. pair.0 == len && pair.1 == tag) pairs ≡ false
others len tag last some apart [] h = refl
others len tag last some apart (pair ∷ pairs) h =
    let rest = others len tag last some apart pairs in grind (arith, nat_tests, rest)

-- a tag that is not Signature's, and not the next behind that of the length field
pub apart : (len tag : ℕ) → tag ≢ 89 → 89 ≤ tag → tag - 1 ≢ len → false ≡ is_data_pair len tag
unfolding is_data_pair
apart len tag last least other =
    sym (others len tag last (omega (arith, least)) other data_fields refl)

pub ruleset single = (below, apart)
