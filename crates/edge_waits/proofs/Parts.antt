-- The first of those who wait, and fronts of bytes.
use Rattle.std.proofs.Common.{◌≡◌, ℕ, ◌+◌, ◌≤◌, List, [], ◌∷◌, ◌++◌, length, take, drop, min}
use Rattle.std.proofs.Common.{slice_index_or, sym, ap, ◌∙◌, arith, length-drop, length-append}
use Rattle.std.proofs.lemmas.List.{take_min}

pub ruleset of_len = (length-drop, length-append)

-- the first one, and the rest
pub first_out : {V : Type 0} (xs new : List V) (v : V) → 1 ≤ length xs
    → v ≡ slice_index_or xs 0 v → new ≡ take 0 xs ++ drop (0 + 1) xs → xs ≡ v ∷ new
first_out [] new v some is rest = absurd (omega (arith, some))
first_out (x ∷ xs) new v some is rest =
    let here : v ≡ x = is in
    let behind : new ≡ xs = rest in
    sym (ap (λ y. y ∷ new) here ∙ ap (λ l. x ∷ l) behind)

-- a front of at most so many bytes
pub front_is : (n : ℕ) (bytes : List ℕ) → take (min (length bytes) n) bytes ≡ take n bytes
front_is n bytes =
    let swapped : min (length bytes) n ≡ min n (length bytes) = omega arith in
    ap (λ m. take m bytes) swapped ∙ take_min n bytes
