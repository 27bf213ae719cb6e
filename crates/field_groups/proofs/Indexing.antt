-- The index of the first field of each slot, as fields are added, and what it finds.
use Rattle.std.proofs.Common.{◌≡◌, ◌≢◌, ℕ, zero, suc, ◌+◌, ◌%◌, ◌<◌, ◌≤◌, Bool, true, false, cond}
use Rattle.std.proofs.Common.{eqb}
use Rattle.std.proofs.Common.{List, [], ◌∷◌, ◌++◌, length, Option, Some, None, refl, ap, ◌∙◌}
use Rattle.std.proofs.Common.{arith, get_or, replicate, le_of_lt, sym}
use Rattle.std.specs.Prelude.{position, nat_lt, not, ◌==◌, IfSome}
use Rattle.std.specs.List.{position_or_len}
use Rattle.std.specs.Borrow.{Bor}
use Rattle.std.proofs.lemmas.Bool.Decides.{nat_tests}
use Rattle.std.proofs.lemmas.List.Folds.{position_or_len_push}
use Rattle.std.proofs.Math.ListN.{set}
use Rattle.std.proofs.lemmas.List.{get_or-set_same, get_or-set_other, length_push}
use Rattle.std.proofs.lemmas.List.{get_or-replicate, length-replicate, length-set}
use Rattle.std.proofs.lemmas.List.Sums.{prefix_len-le-length, position_or_len_is}
use Rattle.std.proofs.lemmas.List.Sums.{fails_before_first, passes_at_first}
use Rattle.field_groups.specs.Index.{IsIndexed, counted_place, slot_of, with_place}

abbrev pub Parts : Type 0
Parts = List (ℕ × Bor (List ℕ))

abbrev pub has : ℕ → ℕ × Bor (List ℕ) → Bool
has tag part = part.0 == tag

-- whether the tag of a part has a slot
abbrev pub stands_in : ℕ → ℕ × Bor (List ℕ) → Bool
stands_in slot part = slot_of part.0 == slot

-- the first place that passes, with one more element
abbrev pub or_last : Option ℕ → Bool → ℕ → Option ℕ
or_last None last place = cond last (Some place) None
or_last (Some first) last place = Some first

pushed : (n len : ℕ) (last : Bool) (at_end in_front in_all : Bool) → n ≤ len
    → eqb n len ≡ at_end → nat_lt n len ≡ in_front
    → nat_lt (cond at_end (len + cond last 0 1) n) (len + 1) ≡ in_all
    → cond in_all (Some (cond at_end (len + cond last 0 1) n)) None
    ≡ or_last (cond in_front (Some n) None) last len
pushed n len true true true all le e f a = absurd (grind (arith, nat_tests))
pushed n len true true false true le e f a = ap Some (omega arith)
pushed n len true true false false le e f a = absurd (grind (arith, nat_tests))
pushed n len false true true all le e f a = absurd (grind (arith, nat_tests))
pushed n len false true false true le e f a = absurd (grind (arith, nat_tests))
pushed n len false true false false le e f a = refl
pushed n len last false true true le e f a = refl
pushed n len last false true false le e f a = absurd (grind (arith, nat_tests))
pushed n len last false false all le e f a = absurd (grind (arith, nat_tests))

pub position-push : {X : Type 0} (p : X → Bool) (xs : List X) (y : X)
    → position p (xs ++ y ∷ []) ≡ or_last (position p xs) (p y) (length xs)
position-push p xs y =
    rw (position_or_len_push p xs y, length_push xs y)
    (pushed (position_or_len p xs) (length xs) (p y) _ _ _
    (prefix_len-le-length (λ x. not (p x)) xs) refl refl refl)

-- no fields
pub none_indexed : IsIndexed [] (replicate 512 0)
none_indexed = record {
  few = omega arith;
  whole = length-replicate {A = ℕ} 512 0;
  place = λ slot lt. let none : get_or (replicate 512 0) slot 0 ≡ 0 =
      get_or-replicate {A = ℕ} 512 slot 0 0 lt in rw none refl;
}

-- a field whose slot has no place yet
pub placed : (parts : Parts) (first : List ℕ) (part : ℕ × Bor (List ℕ)) → IsIndexed parts first
    → length parts < 256 → get_or first (slot_of part.0) 0 ≡ 0
    → IsIndexed (parts ++ part ∷ []) (set first (slot_of part.0) (suc (length parts)))
placed parts first part indexed within none = record {
  few = omega (arith, length_push parts part);
  whole = length-set first (slot_of part.0) (suc (length parts)) ∙ indexed.whole;
  place = λ slot lt. position-push (stands_in slot) parts part
      ∙ at slot lt (eqb (slot_of part.0) slot) refl (indexed.place slot lt);
}
  where
    or_none : (o : Option ℕ) → or_last o false (length parts) ≡ o
    or_none None = refl
    or_none (Some place) = refl

    at : (slot : ℕ) → slot < 512 → (same : Bool) → eqb (slot_of part.0) slot ≡ same
        → position (stands_in slot) parts ≡ counted_place (get_or first slot 0)
        → or_last (position (stands_in slot) parts) (eqb (slot_of part.0) slot) (length parts)
        ≡ counted_place (get_or (set first (slot_of part.0) (suc (length parts))) slot 0)
    at slot lt true e was =
        let same : slot_of part.0 ≡ slot = grind (arith, nat_tests) in
        let here : slot_of part.0 < length first = rw (indexed.whole, same) lt in
        rw (
          was,
          e,
          ← same,
          none,
          get_or-set_same first (slot_of part.0) (suc (length parts)) 0 here,
        ) refl
    at slot lt false e was =
        let other : slot ≢ slot_of part.0 = grind (arith, nat_tests) in
        rw (was, e, get_or-set_other first (slot_of part.0) slot (suc (length parts)) 0 other)
        (or_none (counted_place (get_or first slot 0)))

-- a field whose slot has a place
pub passed_by : (parts : Parts) (first : List ℕ) (part : ℕ × Bor (List ℕ)) → IsIndexed parts first
    → length parts < 256 → get_or first (slot_of part.0) 0 ≢ 0
    → IsIndexed (parts ++ part ∷ []) first
passed_by parts first part indexed few later = record {
  few = omega (arith, length_push parts part);
  whole = indexed.whole;
  place = λ slot lt. position-push (stands_in slot) parts part
      ∙ at slot (eqb (slot_of part.0) slot) refl (get_or first slot 0) refl
      (indexed.place slot lt);
}
  where
    at : (slot : ℕ) → (same : Bool) → eqb (slot_of part.0) slot ≡ same
        → (n : ℕ) → get_or first slot 0 ≡ n → position (stands_in slot) parts ≡ counted_place n
        → or_last (position (stands_in slot) parts) (eqb (slot_of part.0) slot) (length parts)
        ≡ counted_place n
    at slot true e zero z was =
        let same : slot_of part.0 ≡ slot = grind (arith, nat_tests) in
        absurd (later (rw same z))
    at slot false e zero z was = rw (was, e) refl
    at slot same e (suc n) z was = rw was refl

-- one more field, at its place
pub pushed_indexed : (parts : Parts) (first : List ℕ) (part : ℕ × Bor (List ℕ)) (slot place : ℕ)
    → slot ≡ slot_of part.0 → IsIndexed parts first → place ≡ length parts → place < 256
    → IsIndexed (parts ++ part ∷ []) (with_place first slot place)
pushed_indexed parts first part slot place its indexed last few =
    rw (its, last) (by (eqb (get_or first (slot_of part.0) 0) 0) refl)
  where
    room : length parts < 256
    room = rw (← last) few

    by : (none : Bool) → eqb (get_or first (slot_of part.0) 0) 0 ≡ none
        → IsIndexed (parts ++ part ∷ [])
        (cond none (set first (slot_of part.0) (suc (length parts))) first)
    by true n = placed parts first part indexed room (grind (arith, nat_tests))
    by false n = passed_by parts first part indexed room (grind (arith, nat_tests))

-- ---- what is found

-- a place that was found is that of an element
pub is_within : {X : Type 0} (p : X → Bool) (xs : List X) (place : ℕ) → position p xs ≡ Some place
    → (place ≡ position_or_len p xs) × (place < length xs)
is_within p xs place e = by (nat_lt (position_or_len p xs) (length xs)) refl e
  where
    by : (in_front : Bool) → nat_lt (position_or_len p xs) (length xs) ≡ in_front
        → cond in_front (Some (position_or_len p xs)) None ≡ Some place
        → (place ≡ position_or_len p xs) × (place < length xs)
    by true t s = let same : place ≡ position_or_len p xs = cc in
        (same, rw same (grind (arith, nat_tests)))
    by false t s = absurd cc

pub found_within : {X : Type 0} (p : X → Bool) (xs : List X) (o : Option ℕ)
    → o ≡ position p xs → IfSome o (λ place. place < length xs)
found_within p xs None e = tt
found_within p xs (Some place) e = (is_within p xs place (sym e)).1

module _ {X : Type 0} (p q : X → Bool) (under : (x : X) → p x ≡ false → q x ≡ false) where
  -- the first that passes a wider test is the first that passes a narrower one, where it does
  pub narrower : (xs : List X) (d : X) (place : ℕ) → position p xs ≡ Some place
      → q (get_or xs place d) ≡ true → position q xs ≡ Some place
  narrower xs d place e passes =
      let within = is_within p xs place e in
      let first : position_or_len q xs ≡ place = position_or_len_is q xs place d
      (le_of_lt within.1)
      (λ k lt. under (get_or xs k d) (fails_before_first p xs k d (rw (← within.0) lt)))
      (λ lt. passes) in
      let front : nat_lt place (length xs) ≡ true = grind (arith, nat_tests) in
      rw (first, front) refl

  -- where none passes a wider test, none passes a narrower one
  none_in : (xs : List X) (d : X) → position p xs ≡ None → position q xs ≡ None
  none_in xs d e =
      by (nat_lt (position_or_len p xs) (length xs)) refl e
      (nat_lt (position_or_len q xs) (length xs)) refl
    where
      by : (wide : Bool) → nat_lt (position_or_len p xs) (length xs) ≡ wide
          → cond wide (Some (position_or_len p xs)) None ≡ None
          → (narrow : Bool) → nat_lt (position_or_len q xs) (length xs) ≡ narrow
          → cond narrow (Some (position_or_len q xs)) None ≡ None
      by true w none narrow n = absurd cc
      by false w none true n =
          let here : position_or_len q xs < length xs = grind (arith, nat_tests) in
          let before : position_or_len q xs < position_or_len p xs = grind (arith, nat_tests) in
          let fails = under (get_or xs (position_or_len q xs) d)
          (fails_before_first p xs (position_or_len q xs) d before) in
          let passes = passes_at_first q xs d here in
          absurd cc
      by false w none false n = refl

  pub none_narrower : (xs : List X) → position p xs ≡ None → position q xs ≡ None
  none_narrower [] e = refl
  none_narrower (x ∷ xs) e = none_in (x ∷ xs) x e

-- a tag below 448 has a slot of its own
own_slot : (other tag : ℕ) → tag < 448 → slot_of other ≡ slot_of tag → other ≡ tag
own_slot other tag low e = by (nat_lt other 448) refl (nat_lt tag 448) refl e
  where
    by : (one : Bool) → nat_lt other 448 ≡ one → (its : Bool) → nat_lt tag 448 ≡ its
        → cond one other (448 + other % 64) ≡ cond its tag (448 + tag % 64) → other ≡ tag
    by true o true t e = e
    by false o true t e = absurd (grind (arith, nat_tests))
    by one o false t e = absurd (grind (arith, nat_tests))

-- which is the tag
pub own_is : (tag : ℕ) → tag < 448 → tag ≡ slot_of tag
own_is tag low = by (nat_lt tag 448) refl
  where
    by : (own : Bool) → nat_lt tag 448 ≡ own → tag ≡ cond own tag (448 + tag % 64)
    by true o = refl
    by false o = absurd (grind (arith, nat_tests))

-- the slot of a tag, in an index of parts
module _ (parts : Parts) (first : List ℕ) (tag slot : ℕ) (indexed : IsIndexed parts first)
    (is : slot ≡ slot_of tag) (low : slot < 512) where
  -- a part whose tag has another slot has another tag
  other_slot : (part : ℕ × Bor (List ℕ)) → stands_in slot part ≡ false → has tag part ≡ false
  other_slot part other = by (has tag part) refl
    where
      by : (same : Bool) → has tag part ≡ same → same ≡ false
      by true s =
          let tags : part.0 ≡ tag = grind (arith, nat_tests) in
          let slots : slot_of part.0 ≡ slot = ap slot_of tags ∙ sym is in
          absurd (grind (arith, nat_tests))
      by false s = refl

  -- no tag has a place whose slot has none
  pub absent : counted_place (get_or first slot 0) ≡ None → position (has tag) parts ≡ None
  absent none =
      none_narrower (stands_in slot) (has tag) other_slot parts (indexed.place slot low ∙ none)

  -- the first part of a slot is the first of its tag, where it has that tag
  pub present : (place : ℕ) (d : ℕ × Bor (List ℕ)) → counted_place (get_or first slot 0) ≡ Some place
      → (get_or parts place d).0 ≡ tag → position (has tag) parts ≡ Some place
  present place d some here =
      narrower (stands_in slot) (has tag) other_slot parts d place
      (indexed.place slot low ∙ some) (grind (arith, nat_tests))

  -- as it has where the slot is the tag's own
  pub owned : (place : ℕ) → tag < 448 → counted_place (get_or first slot 0) ≡ Some place
      → position (has tag) parts ≡ Some place
  owned place own some = by parts refl
    where
      within : (place ≡ position_or_len (stands_in slot) parts) × (place < length parts)
      within = is_within (stands_in slot) parts place (indexed.place slot low ∙ some)

      by : (ps : Parts) → ps ≡ parts → position (has tag) parts ≡ Some place
      by [] e = let none : place < 0 = rw (ap length e) within.1 in absurd (omega (arith, none))
      by (part ∷ ps) e =
          let stands : stands_in slot (get_or parts place part) ≡ true = rw within.0
          (passes_at_first (stands_in slot) parts part (rw (← within.0) within.1)) in
          present place part some
          (own_slot (get_or parts place part).0 tag own (grind (arith, nat_tests) ∙ is))

-- what a tag with a slot of its own has there is its first place
pub own_place : (parts : Parts) (first : List ℕ) (tag : ℕ) → IsIndexed parts first → tag < 448
    → position (has tag) parts ≡ counted_place (get_or first tag 0)
own_place parts first tag indexed low = by (counted_place (get_or first tag 0)) refl
  where
    by : (o : Option ℕ) → counted_place (get_or first tag 0) ≡ o → position (has tag) parts ≡ o
    by None e = absent parts first tag tag indexed (own_is tag low) (omega (arith, low)) e
    by (Some place) e =
        owned parts first tag tag indexed (own_is tag low) (omega (arith, low)) place low e
