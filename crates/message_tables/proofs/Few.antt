-- In a message at no fault a group has at most as many lines as it may, and what holds of each
-- field holds of those that begin the lines.
use Rattle.std.proofs.Common.{◌≡◌, ◌⊎◌, ℕ, suc, ◌+◌, ◌<◌, ◌≤◌, List, [], ◌∷◌, length, cond, Option}
use Rattle.std.proofs.Common.{Some, None, Bool, true, false, refl, sym, ap, inl, inr, ◌∙◌, arith}
use Rattle.std.proofs.Common.{take_while, count_by, zero-add}
use Rattle.std.specs.Prelude.{nat_le, ◌==◌}
use Rattle.std.specs.List.{slice_get}
use Rattle.std.proofs.lemmas.Bool.Decides.{nat_tests}
use Rattle.std.proofs.lemmas.List.Sums.{take_while-cons, sum_by-cons}
use Rattle.message_tables.specs.declared.table_fault.TableFault.{TableFault}
use Rattle.field_groups.specs.Field.{Field}
use Rattle.message_tables.specs.Tables.{GroupTags, Table, Judge, or_else, first_of, is_one_of}
use Rattle.message_tables.specs.Tables.{is_inside, run, after_tag, from_tag, with_member, in_lines}
use Rattle.message_tables.specs.Tables.{lines_in}
use Rattle.message_tables.specs.FirstFault.{placed_from, misplaced, misplaced_member}
use Rattle.message_tables.specs.FirstFault.{in_groups, group_tags_in, lines_begun, is_opened}
use Rattle.message_tables.specs.FirstFault.{fault_if, first_fault}
use Rattle.message_tables.proofs.Clean.{clean, none_at}

bool_cases : (b : Bool) → (b ≡ true) ⊎ (b ≡ false)
bool_cases true = inl refl
bool_cases false = inr refl

first_none : (a b : Option TableFault) → or_else a b ≡ None → (a ≡ None) × (b ≡ None)
first_none None b h = (refl, h)
first_none (Some x) b h = absurd cc

few_begun : (n : ℕ) (b : Bool) (fault : TableFault)
    → nat_le 32 n ≡ b → fault_if b fault ≡ None → n < 32
few_begun n true fault e none = absurd cc
few_begun n false fault e none = grind (arith, nat_tests)

-- the tags of a group stand apart
pub record IsPlain (g : GroupTags) : Type 0 where
  pub first_inside : is_inside g g.first ≡ true
  pub first_counts_not : (g.first == g.count) ≡ false
  pub first_is_said : is_one_of g.skipped g.first ≡ false
  pub count_outside : is_inside g g.count ≡ false

module _ (g : GroupTags) (plain : IsPlain g) where
  abbrev begins : Field → Bool
  begins f = f.0 == g.first

  abbrev inside : Field → Bool
  inside f = is_inside g f.0

  more : (f : Field) (fs : List Field)
      → count_by begins (f ∷ fs) ≡ cond (begins f) 1 0 + count_by begins fs
  more f fs = sum_by-cons (λ x. cond (begins x) 1 0) f fs

  counts : (f : Field) (fs : List Field)
      → inside f ≡ true → lines_begun g (f ∷ fs) ≡ cond (begins f) 1 0 + lines_begun g fs
  counts f fs h =
      let e : take_while inside (f ∷ fs) ≡ f ∷ take_while inside fs =
      take_while-cons inside f fs ∙ rw h refl in
      ap (count_by begins) e ∙ more f (take_while inside fs)

  stops : (f : Field) (fs : List Field) → inside f ≡ false → lines_begun g (f ∷ fs) ≡ 0
  stops f fs h =
      let e : take_while inside (f ∷ fs) ≡ [] = take_while-cons inside f fs ∙ rw h refl in
      ap (count_by begins) e

  not_count : (f : Field) → inside f ≡ true → (f.0 == g.count) ≡ false
  not_count f h = here (bool_cases (f.0 == g.count))
    where
      here : ((f.0 == g.count) ≡ true) ⊎ ((f.0 == g.count) ≡ false) → (f.0 == g.count) ≡ false
      here (inl same) =
          let e : f.0 ≡ g.count = grind (arith, nat_tests) in
          let two : true ≡ false = sym h ∙ ap (is_inside g) e ∙ plain.count_outside in
          absurd cc
      here (inr other) = other

  -- a field that begins a line, at no fault, is not past the last
  room : (before fs : List Field) (f : Field)
      → begins f ≡ true → inside f ≡ true → is_opened g before ≡ true
      → misplaced (record { before = before; field = f; after = fs }) g ≡ None
      → lines_begun g before < 32
  room before fs f first h opened none =
      let e : f.0 ≡ g.first = grind (arith, nat_tests) in
      let skip : is_one_of g.skipped f.0 ≡ false =
      ap (is_one_of g.skipped) e ∙ plain.first_is_said in
      let member : misplaced_member g before f.0 ≡ None = rw (not_count f h, h) at none in
      few_begun (lines_begun g before)
      (nat_le 32 (lines_begun g before)) _ refl (rw (skip, opened, first) at member)

  -- one more field of the lines
  one_field : (before fs : List Field) (f : Field) (r : Bool)
      → begins f ≡ r → inside f ≡ true → is_opened g before ≡ true → lines_begun g before ≤ 32
      → misplaced (record { before = before; field = f; after = fs }) g ≡ None
      → (is_opened g (f ∷ before) ≡ true
      → lines_begun g (f ∷ before) ≤ 32 → lines_begun g (f ∷ before) + lines_begun g fs ≤ 32)
      → lines_begun g before + lines_begun g (f ∷ fs) ≤ 32
  one_field before fs f true first h opened le none later =
      let o : is_opened g (f ∷ before) ≡ true = rw (not_count f h, h) opened in
      let lt = room before fs f first h opened none in
      let b : lines_begun g (f ∷ before) ≡ 1 + lines_begun g before =
      counts f before h ∙ ap (λ (x : Bool). cond x 1 0 + lines_begun g before) first in
      let m : lines_begun g (f ∷ fs) ≡ 1 + lines_begun g fs =
      counts f fs h ∙ ap (λ (x : Bool). cond x 1 0 + lines_begun g fs) first in
      let rest = later o (omega (arith, b, lt)) in
      omega (arith, b, m, rest)
  one_field before fs f false other h opened le none later =
      let o : is_opened g (f ∷ before) ≡ true = rw (not_count f h, h) opened in
      let b : lines_begun g (f ∷ before) ≡ lines_begun g before =
      counts f before h ∙ ap (λ (x : Bool). cond x 1 0 + lines_begun g before) other
      ∙ zero-add (lines_begun g before) in
      let m : lines_begun g (f ∷ fs) ≡ lines_begun g fs = counts f fs h
      ∙ ap (λ (x : Bool). cond x 1 0 + lines_begun g fs) other ∙ zero-add (lines_begun g fs) in
      let rest = later o (omega (arith, b, le)) in
      omega (arith, b, m, rest)

  past : (before fs : List Field) (f : Field) → inside f ≡ false
      → lines_begun g before ≤ 32 → lines_begun g before + lines_begun g (f ∷ fs) ≤ 32
  past before fs f out le = let e = stops f fs out in omega (arith, e, le)

  module _ (groups : List GroupTags) (i : ℕ) (at : slice_get groups i ≡ Some g) where
    -- the lines after the count
    from_count : (before fs : List Field) → is_opened g before ≡ true
        → lines_begun g before ≤ 32 → first_of (in_groups groups) (placed_from before fs) ≡ None
        → lines_begun g before + lines_begun g fs ≤ 32
    unfolding first_of
    from_count before [] opened le none = omega (arith, le)
    from_count before (f ∷ fs) opened le none = here
        (bool_cases (inside f)) (first_none _ _ none) (λ o l h. from_count (f ∷ before) fs o l h)
      where
        here : ((inside f ≡ true) ⊎ (inside f ≡ false))
            → (in_groups groups (record { before = before; field = f; after = fs }) ≡ None)
            × (first_of (in_groups groups) (placed_from (f ∷ before) fs) ≡ None)
            → (is_opened g (f ∷ before) ≡ true → lines_begun g (f ∷ before) ≤ 32
            → first_of (in_groups groups) (placed_from (f ∷ before) fs) ≡ None
            → lines_begun g (f ∷ before) + lines_begun g fs ≤ 32)
            → lines_begun g before + lines_begun g (f ∷ fs) ≤ 32
        here (inr out) parts later = past before fs f out le
        here (inl h) parts later = one_field before fs f (begins f) refl
            h opened le (none_at (misplaced _) groups i g at parts.0) (λ o l. later o l parts.1)

    -- the lines of the group, from its count, if it stands
    counted : (before fs : List Field) → first_of (in_groups groups) (placed_from before fs) ≡ None
        → lines_begun g (after_tag g.count fs) ≤ 32
    unfolding first_of
    counted before [] none = omega arith
    counted before (f ∷ fs) none =
        here (bool_cases (f.0 == g.count)) (first_none _ _ none).1 (counted (f ∷ before) fs)
      where
        here : ((f.0 == g.count) ≡ true) ⊎ ((f.0 == g.count) ≡ false)
            → first_of (in_groups groups) (placed_from (f ∷ before) fs) ≡ None
            → (first_of (in_groups groups) (placed_from (f ∷ before) fs) ≡ None → lines_begun
            g (after_tag g.count fs) ≤ 32) → lines_begun g (after_tag g.count (f ∷ fs)) ≤ 32
        here (inl count) rest later =
            let e : f.0 ≡ g.count = grind (arith, nat_tests) in
            let out : inside f ≡ false = ap (is_inside g) e ∙ plain.count_outside in
            let zero_lines : lines_begun g (f ∷ before) ≡ 0 = stops f before out in
            let le = from_count (f ∷ before) fs (rw count refl) (omega (arith, zero_lines)) rest in
            rw count (omega (arith, zero_lines, le))
        here (inr other) rest later = rw other (later rest)

  -- ---- as many lines as fields that begin one

  pub head : (f : Field) (fs : List Field) → (line : List Field)
      × (lines : List (List Field)) × (in_lines g.first (f ∷ fs) ≡ (f ∷ line) ∷ lines)
  head f [] = ([], [], refl)
  head f (h ∷ hs) = here (bool_cases (begins h)) (head h hs)
    where
      here : ((begins h ≡ true) ⊎ (begins h ≡ false)) → (line : List Field)
          × (lines : List (List Field)) × (in_lines g.first (h ∷ hs) ≡ (h ∷ line) ∷ lines)
          → (line : List Field)
          × (lines : List (List Field)) × (in_lines g.first (f ∷ h ∷ hs) ≡ (f ∷ line) ∷ lines)
      here (inl first) (line, lines, e) =
          ([], (h ∷ line) ∷ lines, ap (with_member g.first f) e ∙ rw first refl)
      here (inr other) (line, lines, e) =
          (h ∷ line, lines, ap (with_member g.first f) e ∙ rw other refl)

  line_count : (f : Field) (fs : List Field)
      → length (in_lines g.first (f ∷ fs)) ≡ 1 + count_by begins fs
  line_count f [] = refl
  line_count f (h ∷ hs) = here (bool_cases (begins h)) (head h hs) (line_count h hs)
    where
      here : ((begins h ≡ true) ⊎ (begins h ≡ false)) → (line : List Field)
          × (lines : List (List Field)) × (in_lines g.first (h ∷ hs) ≡ (h ∷ line) ∷ lines)
          → length (in_lines g.first (h ∷ hs)) ≡ 1 + count_by begins hs
          → length (in_lines g.first (f ∷ h ∷ hs)) ≡ 1 + count_by begins (h ∷ hs)
      here (inl first) (line, lines, e) n =
          let cut : in_lines g.first (f ∷ h ∷ hs) ≡ (f ∷ []) ∷ (h ∷ line) ∷ lines =
          ap (with_member g.first f) e ∙ rw first refl in
          let long : length (in_lines g.first (f ∷ h ∷ hs)) ≡ suc (suc (length lines)) =
          ap length cut in
          let short : length (in_lines g.first (h ∷ hs)) ≡ suc (length lines) = ap length e in
          let m : count_by begins (h ∷ hs) ≡ 1 + count_by begins hs =
          more h hs ∙ ap (λ (x : Bool). cond x 1 0 + count_by begins hs) first in
          omega (arith, long, short, m, n)
      here (inr other) (line, lines, e) n =
          let cut : in_lines g.first (f ∷ h ∷ hs) ≡ (f ∷ h ∷ line) ∷ lines =
          ap (with_member g.first f) e ∙ rw other refl in
          let long : length (in_lines g.first (f ∷ h ∷ hs)) ≡ suc (length lines) = ap length cut in
          let short : length (in_lines g.first (h ∷ hs)) ≡ suc (length lines) = ap length e in
          let m : count_by begins (h ∷ hs) ≡ count_by begins hs =
          more h hs ∙ ap (λ (x : Bool). cond x 1 0 + count_by begins hs) other
          ∙ zero-add (count_by begins hs) in
          omega (arith, long, short, m, n)

  lines_counted : (fs : List Field)
      → length (in_lines g.first (from_tag g.first fs)) ≡ count_by begins fs
  lines_counted [] = refl
  lines_counted (f ∷ fs) = here (bool_cases (begins f)) (lines_counted fs)
    where
      here : ((begins f ≡ true) ⊎ (begins f ≡ false))
          → length (in_lines g.first (from_tag g.first fs)) ≡ count_by begins fs
          → length (in_lines g.first (from_tag g.first (f ∷ fs))) ≡ count_by begins (f ∷ fs)
      here (inl first) n =
          let at : from_tag g.first (f ∷ fs) ≡ f ∷ fs = rw first refl in
          let m : count_by begins (f ∷ fs) ≡ 1 + count_by begins fs =
          more f fs ∙ ap (λ (x : Bool). cond x 1 0 + count_by begins fs) first in
          ap (λ gs. length (in_lines g.first gs)) at ∙ line_count f fs ∙ sym m
      here (inr other) n =
          let at : from_tag g.first (f ∷ fs) ≡ from_tag g.first fs = rw other refl in
          let m : count_by begins (f ∷ fs) ≡ count_by begins fs =
          more f fs ∙ ap (λ (x : Bool). cond x 1 0 + count_by begins fs) other
          ∙ zero-add (count_by begins fs) in
          ap (λ gs. length (in_lines g.first gs)) at ∙ n ∙ sym m

-- the lines of a group of a table
pub few : {Kind : Type 0} (judge : Judge Kind) (table : Table Kind) (fs : List Field)
    (i : ℕ) (g : GroupTags) → IsPlain g → slice_get (group_tags_in table) i ≡ Some g
    → first_fault judge table fs ≡ None → length (lines_in g fs) ≤ 32
few judge table fs i g plain at h =
    let le = counted g plain (group_tags_in table) i at [] fs (clean judge table fs h).groups in
    let n : length (lines_in g fs) ≡ lines_begun g (after_tag g.count fs) =
    lines_counted g plain (run g (after_tag g.count fs)) in
    omega (arith, n, le)
