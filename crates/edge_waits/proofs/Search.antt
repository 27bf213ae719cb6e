-- One byte further in the search for a field.
use Rattle.std.proofs.Common.{◌≡◌, ℕ, ◌+◌, ◌-◌, ◌<◌, ◌≤◌, List, [], ◌∷◌, ◌++◌, length, take, drop}
use Rattle.std.proofs.Common.{slice_range, false, eqb, get_or, Some, None, refl, sym, ap, ◌∙◌}
use Rattle.std.proofs.Common.{arith, length-drop, is_some}
use Rattle.std.specs.declared.option.Option.{Option}
use Rattle.std.specs.Option.{option_map}
use Rattle.std.proofs.lemmas.List.{drop_more, take_more, get_or-drop}
use Rattle.edge_waits.specs.Fields.{value_at, value_behind}

-- what stands from a place on begins with the byte there
here : (name front bytes : List ℕ) (at : ℕ) → at < length bytes
    → value_behind name front (drop at bytes)
    ≡ value_behind name front (get_or bytes at 0 ∷ drop (at + 1) bytes)
here name front bytes at within = ap (λ l. value_behind name front l) (drop_more bytes at 0 within)

-- a part that is one byte longer
part_more : (bytes : List ℕ) (start at : ℕ) → start ≤ at → at < length bytes
    → slice_range bytes start (at + 1) ≡ slice_range bytes start at ++ get_or bytes at 0 ∷ []
part_more bytes start at behind within =
    let one : at + 1 - start ≡ (at - start) + 1 = omega (arith, behind) in
    let there : start + (at - start) ≡ at = omega (arith, behind) in
    ap (λ n. take n (drop start bytes)) one
    ∙ take_more (drop start bytes) (at - start) 0
    (omega (arith, behind, within, length-drop start bytes))
    ∙ ap (λ b. take (at - start) (drop start bytes) ++ b ∷ [])
    (get_or-drop start bytes (at - start) 0 ∙ ap (λ n. get_or bytes n 0) there)

part_none : (bytes : List ℕ) (at : ℕ) → slice_range bytes at at ≡ []
part_none bytes at = let none : at - at ≡ 0 = omega arith in rw none refl

-- it has another
pub next_field : {X : Type 0} (f : X → List ℕ) (o : Option X) (name bytes : List ℕ)
    (start at : ℕ) → at < length bytes → get_or bytes at 0 ≡ 1
    → option_map f o ≡ value_at name (slice_range bytes start at) → is_some o ≡ false
    → value_behind name (slice_range bytes start at) (drop at bytes)
    ≡ value_behind name (slice_range bytes (at + 1) (at + 1)) (drop (at + 1) bytes)
next_field f (Some x) name bytes start at within is said none = absurd cc
next_field f None name bytes start at within is said none =
    here name (slice_range bytes start at) bytes at within
    ∙ rw (is, sym said) (ap (λ front. value_behind name front (drop (at + 1) bytes))
    (sym (part_none bytes (at + 1))))

-- no field ends here
pub next_byte : (name bytes : List ℕ) (start at : ℕ) → start ≤ at → at < length bytes
    → eqb (get_or bytes at 0) 1 ≡ false
    → value_behind name (slice_range bytes start at) (drop at bytes)
    ≡ value_behind name (slice_range bytes start (at + 1)) (drop (at + 1) bytes)
next_byte name bytes start at behind within away =
    here name (slice_range bytes start at) bytes at within
    ∙ rw away (ap (λ front. value_behind name front (drop (at + 1) bytes))
    (sym (part_more bytes start at behind within)))
