-- The first answer over the places of fields, and what stands before a place, as loops find them.
use Rattle.std.proofs.Common.{◌≡◌, ℕ, ◌+◌, ◌<◌, ◌≤◌, List, [], ◌∷◌, ◌++◌, length, get_or}
use Rattle.std.proofs.Common.{take, drop, Option, Some, None, refl, sym, ap, ◌∙◌, arith, zero-add}
use Rattle.std.proofs.Common.{zero, suc}
use Rattle.std.proofs.lemmas.Bool.Decides.{nat_tests}
use Rattle.std.proofs.Common.{cond, ◌-◌, take_while, count_by, not, Bool, true, false, eqb}
use mathlib.Core.List.{reverse_aux}
use Rattle.std.proofs.lemmas.List.{drop_all, drop_more, take_more}
use Rattle.std.specs.Prelude.{reverse, ◌||◌, ◌&&◌, ◌==◌, if◌then◌else◌}
use Rattle.std.proofs.lemmas.List.Sums.{take_while-cons, sum_by-cons}
use Rattle.message_tables.specs.declared.table_fault.TableFault.{TableFault}
use Rattle.message_tables.specs.declared.table_fault.TableFault.TheVariants as faults
use Rattle.field_groups.specs.Field.{Field}
use Rattle.message_tables.specs.Tables.{GroupTags, first_of, has_tag, is_inside, is_one_of, run}
use Rattle.message_tables.specs.Tables.{after_tag, from_tag, in_lines, lines_in}
use Rattle.message_tables.specs.FirstFault.{Placed, placed_from, place_in, fault_if, is_opened}
use Rattle.message_tables.specs.FirstFault.{is_of_group, lines_begun, misplaced, twice}
use Rattle.message_tables.specs.Plain.{IsApart}

abbrev pub none : Field
none = (0, [])

-- the rest of the places, from one on
abbrev pub rest_at : List Field → ℕ → List Placed
rest_at fs i = placed_from (reverse (take i fs)) (drop i fs)

abbrev pub at : List Field → ℕ → Placed
at fs i = place_in fs i (get_or fs i none)

reverse_push : (xs : List Field) (x : Field) (after : List Field)
    → reverse_aux (xs ++ x ∷ []) after ≡ x ∷ reverse_aux xs after
reverse_push [] x after = refl
reverse_push (y ∷ ys) x after = reverse_push ys x (y ∷ after)

-- the fields before the next place, backwards
pub back : (fs : List Field) (i : ℕ)
    → i < length fs → reverse (take (i + 1) fs) ≡ get_or fs i none ∷ reverse (take i fs)
back fs i lt = ap reverse (take_more fs i none lt) ∙ reverse_push (take i fs) (get_or fs i none) []

pub next_place : (fs : List Field) (i : ℕ)
    → i < length fs → rest_at fs i ≡ at fs i ∷ rest_at fs (i + 1)
next_place fs i lt =
    ap (placed_from (reverse (take i fs))) (drop_more fs i none lt) ∙ ap (λ (before : List Field).
    at fs i ∷ placed_from before (drop (i + 1) fs)) (sym (back fs i lt))

pub passed : {A : Type 0} (judge : Placed → Option A) (fs : List Field) (i : ℕ) (r : Option A)
    → i < length fs → judge (at fs i) ≡ None
    → first_of judge (rest_at fs i) ≡ r → first_of judge (rest_at fs (i + 1)) ≡ r
unfolding first_of
passed judge fs i r lt none so_far = let e : first_of judge (rest_at fs i)
    ≡ first_of judge (rest_at fs (i + 1)) = rw (next_place fs i lt, none) refl in sym e ∙ so_far

pub found : {A : Type 0} (judge : Placed → Option A)
    (fs : List Field) (i : ℕ) (a : A) (r : Option A) → i < length fs → judge (at fs i) ≡ Some a
    → first_of judge (rest_at fs i) ≡ r → Some a ≡ r
unfolding first_of
found judge fs i a r lt some so_far = let e : first_of judge (rest_at fs i) ≡ Some a =
    rw (next_place fs i lt, some) refl in sym e ∙ so_far

pub ended : {A : Type 0} (judge : Placed → Option A) (fs : List Field) (i : ℕ) (r : Option A)
    → length fs ≤ i → first_of judge (rest_at fs i) ≡ r → None ≡ r
unfolding first_of
ended judge fs i r le so_far =
    let e : first_of judge (rest_at fs i) ≡ None = rw (drop_all i fs le) refl in sym e ∙ so_far

has_tag-onto : (tag : ℕ) (xs after : List Field)
    → has_tag tag (reverse_aux xs after) ≡ (has_tag tag xs || has_tag tag after)
has_tag-onto tag [] after = refl
has_tag-onto tag (x ∷ xs) after =
    has_tag-onto tag xs (x ∷ after) ∙ swap (eqb x.0 tag) (has_tag tag xs) (has_tag tag after)
  where
    swap : (a b c : Bool) → (b || (a || c)) ≡ ((a || b) || c)
    swap true true c = refl
    swap true false c = refl
    swap false true c = refl
    swap false false c = refl

pub has_tag-reverse : (tag : ℕ) (fs : List Field) → has_tag tag (reverse fs) ≡ has_tag tag fs
has_tag-reverse tag fs = has_tag-onto tag fs [] ∙ or_false (has_tag tag fs)
  where
    or_false : (b : Bool) → (b || false) ≡ b
    or_false true = refl
    or_false false = refl

pub with_true : (a b : Bool) (fault : TableFault)
    → b ≡ true → fault_if a fault ≡ fault_if (a && b) fault
with_true true b fault y = rw y refl
with_true false b fault y = refl

pub not_second : (a b : Bool) (fault : TableFault) → b ≡ false → None ≡ fault_if (a && b) fault
not_second true b fault y = rw y refl
not_second false b fault y = refl

-- ---- lines, from a field backwards

abbrev pub before_first : ℕ → Field → Bool
before_first first f = not (f.0 == first)

take_while_on : (p : Field → Bool) (f : Field) (fs : List Field)
    → p f ≡ true → take_while p (f ∷ fs) ≡ f ∷ take_while p fs
take_while_on p f fs h = take_while-cons p f fs ∙ rw h refl

pub again_here : (first tag : ℕ) (f : Field) (fs : List Field) → eqb f.0 first ≡ false
    → eqb f.0 tag ≡ true → has_tag tag (take_while (before_first first) (f ∷ fs)) ≡ true
again_here first tag f fs other same =
    rw (take_while_on (before_first first) f fs (rw other refl), same) refl

pub again_on : (first tag : ℕ) (f : Field) (fs : List Field) → eqb f.0 first ≡ false
    → eqb f.0 tag ≡ false → has_tag tag (take_while (before_first first) (f ∷ fs))
    ≡ has_tag tag (take_while (before_first first) fs)
again_on first tag f fs other differs =
    rw (take_while_on (before_first first) f fs (rw other refl), differs) refl

pub counted_on : (p q : Field → Bool) (f : Field) (fs : List Field)
    → q f ≡ true → p f ≡ false → count_by p (take_while q (f ∷ fs)) ≡ count_by p (take_while q fs)
counted_on p q f fs inside out = ap (count_by p) (take_while_on q f fs inside) ∙ sum_by-cons
    (λ x. cond (p x) 1 0) f (take_while q fs) ∙ rw out (zero-add (count_by p (take_while q fs)))

pub counted_one : (p q : Field → Bool) (f : Field) (fs : List Field) → q f ≡ true
    → p f ≡ true → count_by p (take_while q (f ∷ fs)) ≡ 1 + count_by p (take_while q fs)
counted_one p q f fs inside one = ap (count_by p) (take_while_on q f fs inside)
    ∙ sum_by-cons (λ x. cond (p x) 1 0) f (take_while q fs) ∙ rw one refl

-- ---- a step backwards

-- what stands before a place, from the field before it backwards
pub one_back : (fs : List Field) (place : ℕ) (f : Field) → 0 < place → place ≤ length fs
    → f ≡ get_or fs (place - 1) none → reverse (take place fs) ≡ f ∷ reverse (take (place - 1) fs)
one_back fs place f pos le at =
    let e : place ≡ place - 1 + 1 = omega arith in
    ap (λ (n : ℕ). reverse (take n fs)) e ∙ back fs (place - 1) (omega arith)
    ∙ ap (λ (g : Field). g ∷ reverse (take (place - 1) fs)) (sym at)

-- the judgement of a tag at a place, by the fields in front of it
pub twice_as : (once : List ℕ) (fs front : List Field) (i : ℕ) (f : Field)
    → front ≡ take i fs → fault_if (is_one_of once f.0 && has_tag f.0 front) (faults.Reason f.0 13)
    ≡ twice once (place_in fs i f)
twice_as once fs front i f e =
    ap (λ (b : Bool). fault_if (is_one_of once f.0 && b) (faults.Reason f.0 13))
    (ap (has_tag f.0) e ∙ sym (has_tag-reverse f.0 (take i fs)))

-- ---- a step forwards

-- what the fields before a place say of a group, with the field at it
lines_more : (group : GroupTags) (f : Field) (fs : List Field) (lines : ℕ) (inside begins : Bool)
    → is_inside group f.0 ≡ inside → (f.0 == group.first) ≡ begins → lines ≡ lines_begun group fs
    → (if inside then (if begins then 1 else 0) + lines else 0) ≡ lines_begun group (f ∷ fs)
lines_more group f fs lines true true within first is =
    ap (λ (n : ℕ). 1 + n) is
    ∙ sym (counted_one (λ h. h.0 == group.first) (λ h. is_inside group h.0) f fs within first)
lines_more group f fs lines true false within first is =
    zero-add lines ∙ is ∙ sym (counted_on (λ h. h.0 == group.first) (λ h. is_inside group h.0) f fs within first)
lines_more group f fs lines false begins within first is =
    let out : run group (f ∷ fs) ≡ [] =
    take_while-cons (λ h. is_inside group h.0) f fs ∙ rw within refl in
    sym (ap (count_by (λ h. h.0 == group.first)) out)

pub said_more : (group : GroupTags) (fs : List Field) (i : ℕ) (f : Field) (opened : Bool)
    (lines : ℕ) → i < length fs → f ≡ get_or fs i none
    → opened ≡ is_opened group (reverse (take i fs))
    → lines ≡ lines_begun group (reverse (take i fs))
    → ((if f.0 == group.count then true else (if is_inside group f.0 then opened else false))
    ≡ is_opened group (reverse (take (i + 1) fs)))
    × ((if is_inside group f.0 then (if f.0 == group.first then 1 else 0) + lines else 0)
    ≡ lines_begun group (reverse (take (i + 1) fs)))
said_more group fs i f opened lines lt at opened_is lines_is =
    let more : f ∷ reverse (take i fs) ≡ reverse (take (i + 1) fs) =
    ap (λ (g : Field). g ∷ reverse (take i fs)) at ∙ sym (back fs i lt) in (
      ap (λ (b : Bool). if f.0 == group.count then true
          else (if is_inside group f.0 then b else false)) opened_is ∙ ap (is_opened group) more,
      lines_more group f (reverse (take i fs)) lines (is_inside group f.0)
          (f.0 == group.first) refl refl lines_is ∙ ap (lines_begun group) more,
    )

pub few_more : (inside begins : Bool) (n lines i : ℕ)
    → n ≡ (if inside then (if begins then 1 else 0) + lines else 0) → lines ≤ i → n ≤ i + 1
few_more true true n lines i is le = omega (arith, is, le)
few_more true false n lines i is le = omega (arith, is, le)
few_more false begins n lines i is le = omega (arith, is)

-- ---- a group whose fields stand between two places

or_none : (a b : Bool) → (a || b) ≡ false → (a ≡ false) × (b ≡ false)
or_none true b h = absurd cc
or_none false b h = (refl, h)

-- a test of numbers turned round
pub turned : (m n : ℕ) → eqb m n ≡ false → eqb n m ≡ false
turned m n h = by (eqb n m) refl
  where
    by : (b : Bool) → eqb n m ≡ b → b ≡ false
    by false e = refl
    by true e = absurd (grind (arith, nat_tests))

-- a tag that is not of the group is neither that of its count nor inside it
apart : (group : GroupTags) (tag : ℕ) → is_of_group tag group ≡ false
    → (eqb tag group.count ≡ false) × (is_inside group tag ≡ false)
apart group tag h =
    let both = or_none (eqb group.count tag) (is_inside group tag) h in
    (turned group.count tag both.0, both.1)

-- its field has no fault
pub apart_none : (group : GroupTags) (p : Placed) → is_of_group p.field.0 group ≡ false
    → misplaced p group ≡ None
apart_none group p h = let out = apart group p.field.0 h in rw (out.0, out.1) refl

-- what the fields before the first of these places say of the group
pub closed : (fs : List Field) (group : GroupTags) (from to : ℕ) → IsApart fs group from to
    → (false ≡ is_opened group (reverse (take from fs)))
    × (0 ≡ lines_begun group (reverse (take from fs)))
closed fs group zero to is = (refl, refl)
closed fs group (suc n) to is =
    let lt : n < length fs = omega (arith, is.ordered, is.within) in
    let out = apart group (get_or fs n none).0 (is.before n (omega arith)) in
    let same : suc n ≡ n + 1 = omega arith in
    let last : reverse (take (suc n) fs) ≡ get_or fs n none ∷ reverse (take n fs) =
    ap (λ (i : ℕ). reverse (take i fs)) same ∙ back fs n lt in
    let opened : false ≡ is_opened group (get_or fs n none ∷ reverse (take n fs)) =
    rw (out.0, out.1) refl in
    let lines : 0 ≡ lines_begun group (get_or fs n none ∷ reverse (take n fs)) =
    lines_more group (get_or fs n none) (reverse (take n fs))
    (lines_begun group (reverse (take n fs))) false (eqb (get_or fs n none).0 group.first)
    out.1 refl refl in (
      opened ∙ sym (ap (is_opened group) last),
      lines ∙ sym (ap (lines_begun group) last),
    )

-- its lines stand behind the fields before the first of these places
pub lines_behind : (group : GroupTags) (fs : List Field) (from : ℕ)
    → ((place : ℕ) → place < from → is_of_group (get_or fs place none).0 group ≡ false)
    → lines_in group (drop from fs) ≡ lines_in group fs
lines_behind group fs from before =
    ap (λ (behind : List Field). in_lines group.first (from_tag group.first (run group behind)))
    (after fs from before)
  where
    after : (fs : List Field) (n : ℕ)
        → ((place : ℕ) → place < n → is_of_group (get_or fs place none).0 group ≡ false)
        → after_tag group.count (drop n fs) ≡ after_tag group.count fs
    after fs zero before = refl
    after [] (suc n) before = refl
    after (f ∷ fs) (suc n) before =
        let other = (apart group f.0 (before 0 (omega arith))).0 in
        let on : after_tag group.count (f ∷ fs) ≡ after_tag group.count fs = rw other refl in
        after fs n (λ place lt. before (suc place) (omega (arith, lt))) ∙ sym on

-- a search may begin behind places that give no answer
pub begun : {A : Type 0} (judge : Placed → Option A) (fs : List Field) (from : ℕ)
    → from ≤ length fs → ((i : ℕ) → i < from → judge (at fs i) ≡ None)
    → first_of judge (rest_at fs from) ≡ first_of judge (placed_from [] fs)
begun judge fs from le before = sym (on from 0 (omega arith))
  where
    on : (n i : ℕ) → n + i ≡ from → first_of judge (rest_at fs i) ≡ first_of judge (rest_at fs from)
    on zero i e =
        let same : i ≡ from = omega (arith, e) in
        ap (λ (place : ℕ). first_of judge (rest_at fs place)) same
    on (suc n) i e =
        let lt : i < from = omega (arith, e) in
        let within : i < length fs = omega (arith, lt, le) in
        sym (passed judge fs i _ within (before i lt) refl) ∙ on n (i + 1) (omega (arith, e))
