-- Where fields are cut: at a tag, at the end of a group, at the next line.
use Rattle.std.proofs.Common.{◌≡◌, ℕ, suc, ◌+◌, ◌-◌, ◌<◌, ◌≤◌, List, [], ◌∷◌, length, get_or, take}
use Rattle.std.proofs.Common.{drop, map, Bool, true, false, not, cond, eqb, refl, sym, ap, ◌∙◌}
use Rattle.std.proofs.Common.{arith, one-add, add-one, drop-drop}
use Rattle.std.specs.Prelude.{◌==◌}
use Rattle.std.specs.Prelude.{Some, None}
use Rattle.std.specs.List.{prefix_len, take-map, drop-map}
use Rattle.std.proofs.lemmas.List.{drop_more, drop_all}
use Rattle.std.specs.declared.option.Option.{Option}
use Rattle.field_groups.specs.Field.{Field}
use Rattle.message_tables.specs.Tables.{or_else, first_of, after_tag, from_tag, with_member}
use Rattle.message_tables.specs.Tables.{in_lines}

module _ {X : Type 0} (view : X → Field) where
  pub from_cut : (tag : ℕ) (xs : List X) → map
      view (drop (prefix_len (λ x. not ((view x).0 == tag)) xs) xs) ≡ from_tag tag (map view xs)
  from_cut tag [] = refl
  from_cut tag (x ∷ xs) = here (eqb (view x).0 tag) (from_cut tag xs)
    where
      here : (b : Bool) → map view (drop (prefix_len (λ y. not ((view y).0 == tag)) xs) xs)
          ≡ from_tag tag (map view xs)
          → map view (drop (cond (not b) (1 + prefix_len (λ y. not ((view y).0 == tag)) xs) 0)
          (x ∷ xs)) ≡ cond b (view x ∷ map view xs) (from_tag tag (map view xs))
      here true e = refl
      here false e = rw one-add e

  pub after_cut : (tag : ℕ) (xs : List X) → prefix_len (λ x. not ((view x).0 == tag)) xs < length xs
      → map view (drop (prefix_len (λ x. not ((view x).0 == tag)) xs + 1) xs)
      ≡ after_tag tag (map view xs)
  after_cut tag [] lt = absurd (omega arith)
  after_cut tag (x ∷ xs) lt = here (eqb (view x).0 tag) lt (after_cut tag xs)
    where
      here : (b : Bool)
          → cond (not b) (1 + prefix_len (λ y. not ((view y).0 == tag)) xs) 0 < length (x ∷ xs)
          → (prefix_len (λ y. not ((view y).0 == tag)) xs < length xs → map view (drop
          (prefix_len (λ y. not ((view y).0 == tag)) xs + 1) xs) ≡ after_tag tag (map view xs))
          → map view (drop (cond (not b) (1 + prefix_len (λ y. not ((view y).0 == tag)) xs) 0 + 1)
          (x ∷ xs)) ≡ cond b (map view xs) (after_tag tag (map view xs))
      here true h e = refl
      here false h e = rw (one-add, add-one) (rw add-one at (e (omega arith)))

  pub after_none : (tag : ℕ) (xs : List X)
      → length xs ≤ prefix_len (λ x. not ((view x).0 == tag)) xs → map
      view (drop (prefix_len (λ x. not ((view x).0 == tag)) xs) xs) ≡ after_tag tag (map view xs)
  after_none tag [] le = refl
  after_none tag (x ∷ xs) le = here (eqb (view x).0 tag) le (after_none tag xs)
    where
      here : (b : Bool)
          → length (x ∷ xs) ≤ cond (not b) (1 + prefix_len (λ y. not ((view y).0 == tag)) xs) 0
          → (length xs ≤ prefix_len (λ y. not ((view y).0 == tag)) xs → map view (drop
          (prefix_len (λ y. not ((view y).0 == tag)) xs) xs) ≡ after_tag tag (map view xs))
          → map view (drop (cond (not b) (1 + prefix_len (λ y. not ((view y).0 == tag)) xs) 0)
          (x ∷ xs)) ≡ cond b (map view xs) (after_tag tag (map view xs))
      here true h e = absurd (omega arith)
      here false h e = rw one-add (e (omega arith))

  -- the fields of a line, and those of the next lines
  pub line_cut : (first : ℕ) (x : X) (xs : List X) → in_lines first (view x ∷ map view xs)
      ≡ (view x ∷ map view (take (prefix_len (λ y. not ((view y).0 == first)) xs) xs))
      ∷ in_lines first (map view (drop (prefix_len (λ y. not ((view y).0 == first)) xs) xs))
  line_cut first x [] = refl
  line_cut first x (y ∷ ys) = ap (with_member first (view x)) (line_cut first y ys)
      ∙ here (eqb (view y).0 first) (line_cut first y ys)
    where
      n : ℕ
      n = prefix_len (λ z. not ((view z).0 == first)) ys

      here : (b : Bool) → in_lines first (view y ∷ map view ys)
          ≡ (view y ∷ map view (take n ys)) ∷ in_lines first (map view (drop n ys))
          → cond b ((view x ∷ [])
          ∷ (view y ∷ map view (take n ys)) ∷ in_lines first (map view (drop n ys)))
          ((view x ∷ view y ∷ map view (take n ys)) ∷ in_lines first (map view (drop n ys)))
          ≡ (view x ∷ map view (take (cond (not b) (1 + n) 0) (y ∷ ys)))
          ∷ in_lines first (map view (drop (cond (not b) (1 + n) 0) (y ∷ ys)))
      here true e = ap (λ ls. (view x ∷ []) ∷ ls) (sym e)
      here false e = rw one-add refl

  -- the line that begins at a place
  pub line_at : (first : ℕ) (fs : List X) (from : ℕ) (d : X) → from < length fs
      → in_lines first (drop from (map view fs)) ≡ take (from + 1 + prefix_len
      (λ y. not ((view y).0 == first)) (drop (from + 1) fs) - from) (drop from (map view fs))
      ∷ in_lines first (drop (from
      + 1 + prefix_len (λ y. not ((view y).0 == first)) (drop (from + 1) fs)) (map view fs))
  line_at first fs from d lt =
      let ys : List X = drop (from + 1) fs in
      let n : ℕ = prefix_len (λ y. not ((view y).0 == first)) ys in
      let x : X = get_or fs from d in
      let e1 : drop from (map view fs) ≡ view x ∷ map view ys =
      drop-map view from fs ∙ ap (map view) (drop_more fs from d lt) in
      let e2 : drop (from + 1 + n) (map view fs) ≡ map view (drop n ys) =
      drop-map view (from + 1 + n) fs ∙ ap (map view) (sym (drop-drop n (from + 1) fs)) in
      let size : from + 1 + n - from ≡ suc n = omega arith in
      let e3 : take (from + 1 + n - from) (drop from (map view fs)) ≡ view x
      ∷ map view (take n ys) = rw (size, e1) (ap (λ ts. view x ∷ ts) (take-map view n ys)) in
      ap (in_lines first) e1 ∙ line_cut first x ys ∙ (λ i. sym e3 i ∷ in_lines first (sym e2 i))

  pub line_there : (first : ℕ) (fs : List X) (from : ℕ) → from < length fs
      → in_lines first (drop from (map view fs)) ≡ take (from + 1 + prefix_len
      (λ y. not ((view y).0 == first)) (drop (from + 1) fs) - from) (drop from (map view fs))
      ∷ in_lines first (drop (from
      + 1 + prefix_len (λ y. not ((view y).0 == first)) (drop (from + 1) fs)) (map view fs))
  line_there first [] from lt = absurd (omega arith)
  line_there first (x ∷ xs) from lt = line_at first (x ∷ xs) from x lt

-- ---- the first answer of the lines, as a loop finds it

module _ {A : Type 0} (f : List Field → Option A) (first : ℕ) (fs : List Field) where
  pub line_passed : (from end : ℕ) (line next : List Field) (r : Option A) → in_lines
      first (drop from fs) ≡ next ∷ in_lines first (drop end fs) → line ≡ next → f line ≡ None
      → first_of f (in_lines first (drop from fs)) ≡ r
      → first_of f (in_lines first (drop end fs)) ≡ r
  unfolding first_of
  line_passed from end line next r cut same none so_far =
      let e : first_of f (in_lines first (drop from fs))
      ≡ first_of f (in_lines first (drop end fs)) = ap (first_of f) cut ∙ ap
      (λ o. or_else o (first_of f (in_lines first (drop end fs)))) (ap f (sym same) ∙ none) in
      sym e ∙ so_far

  pub line_found : (from end : ℕ) (line next : List Field) (a : A) (r : Option A) → in_lines
      first (drop from fs) ≡ next ∷ in_lines first (drop end fs) → line ≡ next → f line ≡ Some a
      → first_of f (in_lines first (drop from fs)) ≡ r → Some a ≡ r
  unfolding first_of
  line_found from end line next a r cut same some so_far =
      let e : first_of f (in_lines first (drop from fs)) ≡ Some a = ap (first_of f) cut ∙ ap
      (λ o. or_else o (first_of f (in_lines first (drop end fs)))) (ap f (sym same) ∙ some) in
      sym e ∙ so_far

  pub line_ended : (from : ℕ) (r : Option A)
      → length fs ≤ from → first_of f (in_lines first (drop from fs)) ≡ r → None ≡ r
  unfolding first_of
  line_ended from r le so_far = let e : first_of f (in_lines first (drop from fs)) ≡ None =
      ap (λ gs. first_of f (in_lines first gs)) (drop_all from fs le) in sym e ∙ so_far
