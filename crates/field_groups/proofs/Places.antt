-- The first place that passes a test.
use Rattle.std.proofs.Common.{◌-◌, Option, option_map, length, ◌≡◌, ℕ, ◌+◌, ◌<◌, ◌≤◌, Bool, true}
use Rattle.std.proofs.Common.{false, cond, get_or, drop, ◌∙◌, ⊎_elim}
use Rattle.std.proofs.Common.{List, [], ◌∷◌, take, length-take, Some, None, refl, ap, arith}
use Rattle.std.specs.Prelude.{map, position, not}
use Rattle.std.specs.List.{list_any, position_or_len, last_or, slice_get}
use Rattle.std.proofs.lemmas.List.{get_or-take, get_or-drop, length-drop}
use Rattle.std.proofs.lemmas.List.Elements.{All-from_get_or}
use Rattle.std.proofs.lemmas.List.Folds.{list_any_none}
use Rattle.std.proofs.lemmas.List.{length-map}
use Rattle.std.proofs.lemmas.Bool.{false_from_ne_true, cases_lt}
use Rattle.memchr.specs.Find.{IsFirstByte, Nowhere, Passes}

position_or_len-map : {X Y : Type 0} (test : Y → Bool) (view : X → Y) (xs : List X)
    → position_or_len test (map view xs) ≡ position_or_len (λ x. test (view x)) xs
position_or_len-map test view [] = refl
position_or_len-map test view (x ∷ xs) =
    ap (λ (n : ℕ). cond (not (test (view x))) (1 + n) 0) (position_or_len-map test view xs)

pub position-map : {X Y : Type 0} (test : Y → Bool) (view : X → Y) (xs : List X)
    → position test (map view xs) ≡ position (λ x. test (view x)) xs
position-map test view xs = rw (position_or_len-map test view xs, length-map xs view) refl

-- no byte passes where a search finds none
pub none_passes : (test : ℕ → Bool) (hay : List ℕ)
    → IsFirstByte test hay None → list_any test hay ≡ false
none_passes test hay nowhere =
    list_any_none test hay (All-from_get_or (λ (x : ℕ). test x ≡ false)
    hay 0 (λ k lt. false_from_ne_true _ (nowhere k (omega arith) lt)))

-- no byte passes before the one that a search finds
pub none_before : (test : ℕ → Bool) (hay : List ℕ) (place : ℕ)
    → IsFirstByte test hay (Some place) → list_any test (take place hay) ≡ false
none_before test hay place found =
    list_any_none test
    (take place hay) (All-from_get_or (λ (x : ℕ). test x ≡ false) (take place hay) 0 (λ k lt.
    let below : k < place = omega (arith, length-take place hay) in
    rw (get_or-take place hay k 0 below)
    (false_from_ne_true _ (found.0.before k (omega arith) below))))

-- a byte of a part of the bytes
in_part : (hay : List ℕ) (from n k : ℕ) → k < n
    → get_or (take n (drop from hay)) k 0 ≡ get_or hay (from + k) 0
in_part hay from n k lt = get_or-take n (drop from hay) k 0 lt ∙ get_or-drop from hay k 0

-- the first byte that passes, where none before a part of the bytes does, and one in it
pub found_in_part : (test : ℕ → Bool) (hay : List ℕ) (from n place : ℕ) → from ≤ length hay
    → Nowhere (Passes test hay) 0 from → IsFirstByte test (take n (drop from hay)) (Some place)
    → IsFirstByte test hay (Some (from + place))
found_in_part test hay from n place le before found =
    let long = length-take n (drop from hay) in
    let left = length-drop from hay in
    let here : place < n = omega (arith, found.0.high, long) in (
      record {
        low = omega arith;
        high = omega (arith, found.0.high, long, left, le);
        before = λ k low lt p. ⊎_elim (λ early. before k low early p)
            (λ late. let back : from + (k - from) ≡ k = omega (arith, late) in
            let passes : test (get_or hay (from + (k - from)) 0) ≡ true = rw back p in
            found.0.before (k - from) (omega arith) (omega (arith, lt, late))
            (rw (in_part hay from n (k - from) (omega (arith, lt, late, here))) passes))
            (cases_lt k from);
      },
      rw (in_part hay from n place here) at found.1,
    )

-- no byte passes before a part of the bytes or in it
pub none_in_part : (test : ℕ → Bool) (hay : List ℕ) (from n : ℕ) → from + n ≤ length hay
    → Nowhere (Passes test hay) 0 from → IsFirstByte test (take n (drop from hay)) None
    → Nowhere (Passes test hay) 0 (from + n)
none_in_part test hay from n le before none = λ k low lt p.
    ⊎_elim (λ early. before k low early p)
    (λ late. let back : from + (k - from) ≡ k = omega (arith, late) in
    let passes : test (get_or hay (from + (k - from)) 0) ≡ true = rw back p in
    let within : k - from < n = omega (arith, lt, late) in
    none (k - from) (omega arith)
    (omega (arith, length-take n (drop from hay), length-drop from hay, le, within))
    (rw (in_part hay from n (k - from) within) passes))
    (cases_lt k from)

last_is : {X Y : Type 0} (view : X → Y) (o : Option Y) (x : X) (xs : List X)
    → option_map view (slice_get (x ∷ xs) (length xs)) ≡ last_or o (map view (x ∷ xs))
last_is view o x [] = refl
last_is view o x (y ∷ xs) = last_is view (Some (view x)) y xs

-- the element that stands last
pub last_seen : {X Y : Type 0} (view : X → Y) (xs : List X)
    → option_map view (slice_get xs (length xs - 1)) ≡ last_or None (map view xs)
last_seen view [] = refl
last_seen view (x ∷ xs) =
    let one : length (x ∷ xs) - 1 ≡ length xs = omega arith in rw one (last_is view None x xs)

-- no elements are seen of none alone
pub none_mapped : {X Y : Type 0} (view : X → Y) (xs : List X) → map view xs ≡ [] → xs ≡ []
none_mapped view [] e = refl
none_mapped view (x ∷ xs) e = absurd cc
