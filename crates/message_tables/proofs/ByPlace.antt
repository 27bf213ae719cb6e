-- The first field that passes a test stands at the first place that passes it.
use Rattle.std.proofs.Common.{◌≡◌, ℕ, suc, ◌+◌, Bool, true, false, cond, eqb, List, [], ◌∷◌, length}
use Rattle.std.proofs.Common.{Option, Some, None, refl, ap, ◌∙◌, arith, one-add}
use Rattle.std.specs.Prelude.{position, nat_lt, not, ◌==◌}
use Rattle.std.specs.Option.{option_map}
use Rattle.std.specs.List.{find, position_or_len, slice_get}
use Rattle.std.proofs.lemmas.Bool.Decides.{nat_tests}
use Rattle.field_groups.specs.Field.{Field}
use Rattle.message_tables.specs.Tables.{GroupTags, value_at, run, after_tag, from_tag}
use Rattle.message_tables.specs.Tables.{line_fields_in}

abbrev pub found_at : {X : Type 0} → Option ℕ → List X → Option X
found_at None xs = None
found_at (Some place) xs = slice_get xs place

abbrev at_most : ℕ → ℕ → Option ℕ
at_most n len = cond (nat_lt n len) (Some n) None

later : {X : Type 0} (x : X) (xs : List X) (n : ℕ) (inner outer : Bool)
    → nat_lt n (length xs) ≡ inner → nat_lt (suc n) (suc (length xs)) ≡ outer
    → found_at (cond outer (Some (suc n)) None) (x ∷ xs) ≡ found_at (cond inner (Some n) None) xs
later x xs n true true i o = refl
later x xs n true false i o = absurd (grind (arith, nat_tests))
later x xs n false true i o = absurd (grind (arith, nat_tests))
later x xs n false false i o = refl

at_once : {X : Type 0} (x : X) (xs : List X) (outer : Bool) → nat_lt 0 (suc (length xs)) ≡ outer
    → found_at (cond outer (Some 0) None) (x ∷ xs) ≡ Some x
at_once x xs true o = refl
at_once x xs false o = absurd (grind (arith, nat_tests))

pub found_by_place : {X : Type 0} (p : X → Bool) (xs : List X)
    → found_at (position p xs) xs ≡ find p xs
found_by_place p [] = refl
found_by_place p (x ∷ xs) = here (p x) (found_by_place p xs)
  where
    here : (b : Bool) → found_at (position p xs) xs ≡ find p xs → found_at
        (at_most (cond (not b) (1 + position_or_len p xs) 0) (length (x ∷ xs))) (x ∷ xs)
        ≡ cond b (Some x) (find p xs)
    here true e = at_once x xs _ refl
    here false e = rw one-add (later x xs (position_or_len p xs) _ _ refl refl ∙ e)

pub value_by_place : (tag : ℕ) (fields : List Field) (place : Option ℕ) (field : Option Field)
    → place ≡ position (λ f. f.0 == tag) fields → field ≡ found_at place fields
    → option_map (λ f. f.1) field ≡ value_at tag fields
value_by_place tag fields place field p f =
    ap (option_map (λ (g : Field). g.1)) (f ∙ ap (λ (o : Option ℕ). found_at o fields) p
    ∙ found_by_place (λ (g : Field). eqb g.0 tag) fields)

-- fields in which the count of a group does not stand have no line of it
pub no_lines : (group : GroupTags) (fields : List Field)
    → None ≡ position (λ f. f.0 == group.count) fields → [] ≡ line_fields_in group fields
no_lines group fields none =
    ap (λ (fs : List Field). from_tag group.first (run group fs)) (nothing fields absent)
  where
    absent : None ≡ find (λ (f : Field). eqb f.0 group.count) fields
    absent = ap (λ (o : Option ℕ). found_at o fields) none
        ∙ found_by_place (λ (f : Field). eqb f.0 group.count) fields

    nothing : (fs : List Field) → None ≡ find (λ (f : Field). eqb f.0 group.count) fs
        → [] ≡ after_tag group.count fs
    nothing [] e = refl
    nothing (f ∷ fs) e = here (eqb f.0 group.count) (nothing fs) e
      where
        here : (b : Bool)
            → (None ≡ find (λ (g : Field). eqb g.0 group.count) fs → [] ≡ after_tag group.count fs)
            → None ≡ cond b (Some f) (find (λ (g : Field). eqb g.0 group.count) fs)
            → [] ≡ cond b fs (after_tag group.count fs)
        here true later e = absurd cc
        here false later e = later e
