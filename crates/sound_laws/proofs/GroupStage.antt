-- What is written of a sound message has each member of a group in its place.
use Rattle.std.proofs.Common.{◌≡◌, inl, inr, ◌≤◌, ◌<◌, ◌+◌, ℕ, List, [], ◌∷◌, ◌++◌, length, cond}
use Rattle.std.proofs.Common.{Some, None, Bool, true, false, refl, sym, ap, subst, ◌∙◌, arith}
use Rattle.std.proofs.Common.{count_by, append_assoc, zero-add}
use Rattle.std.specs.Prelude.{not, nat_le, ◌||◌, ◌==◌, if◌then◌else◌, ◌^◌}
use Rattle.std.specs.Fmt.{decimal}
use Rattle.std.specs.Int.{is_in_range}
use Rattle.std.specs.Char.{is_ascii_digit}
use Rattle.std.specs.Str.{bytes_eq}
use Rattle.std.specs.Str.Parse.{digits_value}
use Rattle.std.proofs.lemmas.Bool.{eqb-true}
use Rattle.std.proofs.lemmas.Fmt.{digits_decimal, digits_value-decimal, decimal_nonempty}
use Rattle.std.proofs.lemmas.Fmt.{length-decimal-le}
use Rattle.std.proofs.lemmas.Slice.Eq.{bytes_eq-Decides}
use Rattle.std.specs.List.{AllByRecursion, flat_map, list_all}
use Rattle.std.proofs.lemmas.Bool.Decides.{nat_tests}
use Rattle.std.proofs.lemmas.List.Sums.{take_while-cons, sum_by-append, sum_by-cons}
use Rattle.message_tables.specs.declared.table_fault.TableFault.TheVariants as faults
use Rattle.field_groups.specs.HeadValues.{number_in}
use Rattle.field_groups.specs.Field.{Field}
use Rattle.message_tables.specs.Tables.{Row, RepeatingGroup, Item, Lines, Table, Judge, Message}
use Rattle.message_tables.specs.Tables.{Cell, GroupTags, first_of, has_tag, is_one_of, tags_of}
use Rattle.message_tables.specs.Tables.{tags_in, lines_of, is_inside, run}
use Rattle.message_tables.specs.FirstFault.{placed_from, fault_if, lines_begun, line_before}
use Rattle.message_tables.specs.FirstFault.{is_opened, misplaced, in_groups, is_of_group}
use Rattle.message_tables.specs.Content.{line_fields, group_fields, item_fields}
use Rattle.field_groups.proofs.Digits.{numerals}
use Rattle.sound_laws.specs.Sound.{IsGroup, IsItem}
use Rattle.sound_laws.proofs.Each.{apart_first, apart_same, each_at, each_part, neither, all_false}
use Rattle.sound_laws.proofs.Each.{all_true, both, each_by, each_none, each_swapped, each_two}
use Rattle.sound_laws.proofs.Each.{either, either_true, none_is, same_number}
use Rattle.sound_laws.proofs.Stages.{lines_each, of_rows, item_tags, GroupFits, IsFit, each_of}
use Rattle.sound_laws.proofs.Stages.{item_tagged, items_tagged}
use Rattle.sound_laws.proofs.Found.{Begins, Once, Outside, are_after, group_begins, is_before}
use Rattle.sound_laws.proofs.Found.{lines_run}

-- the fields behind some have the members of a group in their places
abbrev pub InPlace : GroupTags → List Field → List Field → Type 0
InPlace g before fields = AllByRecursion (λ p. misplaced p g ≡ None) (placed_from before fields)

-- whatever stands before them
abbrev Anywhere : GroupTags → List Field → Type 0
Anywhere g fields = (before : List Field) → InPlace g before fields

-- ---- the fields of a group

module _ (g : GroupTags) where
  -- what stands before a member: the count, and so many lines
  record Before (before : List Field) (done : ℕ) : Type 0 where
    opened : is_opened g before ≡ true
    begun : lines_begun g before ≡ done

  -- fields behind so many lines
  abbrev Behind : ℕ → List Field → Type 0
  Behind done fields = (before : List Field) → Before before done → InPlace g before fields

  one_count : (f : Field) (fs : List Field) → count_by (λ x. x.0 == g.first) (f ∷ fs)
      ≡ cond (f.0 == g.first) 1 0 + count_by (λ x. x.0 == g.first) fs
  one_count f fs = sum_by-cons (λ x. cond (x.0 == g.first) 1 0) f fs

  line_on : (f : Field) (fs : List Field)
      → line_before g (f ∷ fs) ≡ (if f.0 == g.first then [] else f ∷ line_before g fs)
  line_on f fs =
      take_while-cons (λ x. not (x.0 == g.first)) f fs ∙ by (f.0 == g.first) (f ∷ line_before g fs)
    where
      by : (b : Bool) (rest : List Field) → cond (not b) rest [] ≡ (if b then [] else rest)
      by true rest = refl
      by false rest = refl

  -- behind the count
  start : (n : List ℕ) (before : List Field) → is_inside g g.count ≡ false
      → Before ((g.count, n) ∷ before) 0
  start n before outside =
      let cut : run g ((g.count, n) ∷ before) ≡ [] =
      take_while-cons (λ x. is_inside g x.0) (g.count, n) before ∙ rw outside refl in record {
        opened = rw (same_number g.count) refl;
        begun = ap (count_by (λ x. x.0 == g.first)) cut;
      }

  -- behind one member more
  on : (f : Field) (before : List Field) (done now : ℕ) → is_inside g f.0 ≡ true
      → cond (f.0 == g.first) 1 0 + done ≡ now → Before before done → Before (f ∷ before) now
  on f before done now inside e b =
      let run_on : run g (f ∷ before) ≡ f ∷ run g before =
      take_while-cons (λ x. is_inside g x.0) f before ∙ rw inside refl in record {
        opened = by (f.0 == g.count) b.opened;
        begun = ap (count_by (λ x. x.0 == g.first)) run_on ∙ one_count f (run g before)
            ∙ ap (λ n. cond (f.0 == g.first) 1 0 + n) b.begun ∙ e;
      }
    where
      by : (b : Bool) → is_opened g before ≡ true
          → (if b then true else (if is_inside g f.0 then is_opened g before else false)) ≡ true
      by true stands = refl
      by false stands = rw inside stands

  -- what is asked of the tag of a member
  record IsMember (tag : ℕ) : Type 0 where
    count : (tag == g.count) ≡ false
    inside : is_inside g tag ≡ true
    skipped : is_one_of g.skipped tag ≡ false

  -- a member in its place
  member_in : (f : Field) (before after : List Field) → IsMember f.0 → is_opened g before ≡ true
      → (if f.0 == g.first
      then fault_if (nat_le 32 (lines_begun g before)) (faults.Reason g.count 5)
      else fault_if (lines_begun g before == 0 || has_tag f.0 (line_before g before))
      (faults.Reason f.0 15)) ≡ None
      → misplaced (record { before = before; field = f; after = after }) g ≡ None
  member_in f before after m stands e = rw (m.count, m.inside, m.skipped, stands) e

  -- the fields of a line behind its first
  others : (fs : List Field) → AllByRecursion (λ f. IsMember f.0) fs
      → AllByRecursion (λ f. (f.0 == g.first) ≡ false) fs → Once fs → (done : ℕ)
      → (rest : List Field) → Behind (1 + done) rest → (before : List Field)
      → Before before (1 + done)
      → AllByRecursion (λ f. has_tag f.0 (line_before g before) ≡ false) fs
      → InPlace g before (fs ++ rest)
  others [] members none once done rest k before at free = k before at
  others (f ∷ fs) members none once done rest k before at free =
      let mine = members.0 in
      let some : (1 + done == 0) ≡ false = grind (arith, nat_tests) in
      let now : line_before g (f ∷ before) ≡ f ∷ line_before g before =
      line_on f before ∙ rw none.0 refl in
      let P : List Field → Type 0 = λ line. AllByRecursion (λ h. has_tag h.0 line ≡ false) fs in (
        member_in f before (fs ++ rest) mine at.opened (rw (none.0, at.begun, some, free.0) refl),
        others fs members.1 none.1 once.1 done rest k (f ∷ before)
            (on f before (1 + done) (1 + done) mine.inside (rw none.0 (zero-add (1 + done))) at)
            (subst P (sym now) (each_two _ _ _ (λ h other stood. neither (f.0 == h.0)
            (has_tag h.0 (line_before g before)) (apart_same h.0 f.0 other) stood) fs once.0
            free.1)),
      )

  -- a line
  line_in : (fields : List Field) → Begins g.first fields
      → AllByRecursion (λ f. IsMember f.0) fields → (done : ℕ) → done < 32
      → (rest : List Field) → Behind (1 + done) rest → Behind done (fields ++ rest)
  line_in fields line members done few rest k before at =
      let f : Field = (g.first, line.text) in
      let first = same_number g.first in
      let below : nat_le 32 done ≡ false = grind (arith, nat_tests) in
      let now : line_before g (f ∷ before) ≡ [] = line_on f before ∙ rw first refl in
      let P : List Field → Type 0 =
      λ fs. AllByRecursion (λ f. IsMember f.0) fs → InPlace g before (fs ++ rest) in
      let Q : List Field → Type 0 =
      λ before. AllByRecursion (λ h. has_tag h.0 before ≡ false) line.others in
      subst P (sym line.is) (λ all. (
        member_in f before (line.others ++ rest) all.0 at.opened (rw (first, at.begun, below) refl),
        others line.others all.1 line.none line.once done rest k (f ∷ before)
            (on f before done (1 + done) all.0.inside (rw first refl) at)
            (subst Q (sym now) (each_at _ line.others (λ i h at. refl))),
      )) members

  lines_in_place : (lines : List (List Cell))
      → AllByRecursion (λ line. Begins g.first (line_fields line)) lines
      → AllByRecursion (λ line. AllByRecursion (λ f. IsMember f.0) (line_fields line)) lines
      → (rest : List Field) → Anywhere g rest → (done : ℕ) → length lines + done ≤ 32
      → Behind done (flat_map line_fields lines ++ rest)
  lines_in_place [] begin members rest k done few before at = k before
  lines_in_place (line ∷ lines) begin members rest k done few before at =
      subst (InPlace g before)
      (sym (append_assoc (line_fields line) (flat_map line_fields lines) rest))
      (line_in (line_fields line) begin.0 members.0 done (omega (arith, few))
      (flat_map line_fields lines ++ rest)
      (lines_in_place lines begin.1 members.1 rest k (1 + done) (omega (arith, few))) before at)

  -- ---- the count

  none_first : (fs : List Field)
      → AllByRecursion (λ f. (f.0 == g.first) ≡ false) fs → count_by (λ x. x.0 == g.first) fs ≡ 0
  none_first [] none = refl
  none_first (f ∷ fs) none = one_count f fs ∙ rw (none.0, none_first fs none.1) refl

  lines_count : (lines : List (List Cell))
      → AllByRecursion (λ line. Begins g.first (line_fields line)) lines
      → count_by (λ x. x.0 == g.first) (flat_map line_fields lines) ≡ length lines
  lines_count [] begin = refl
  lines_count (line ∷ lines) begin =
      let b = begin.0 in
      let one : count_by (λ x. x.0 == g.first) (line_fields line) ≡ 1 =
      ap (count_by (λ x. x.0 == g.first)) b.is ∙ one_count (g.first, b.text) b.others
      ∙ rw (same_number g.first, none_first b.others b.none) refl in
      let all = sum_by-append (λ x. cond (x.0 == g.first) 1 0) (line_fields line)
      (flat_map line_fields lines) in
      let rest = lines_count lines begin.1 in
      omega (arith, one, all, rest)

-- a number that is written is read
pub number_said : (n : ℕ) → n ≤ 1_000_000_000 → number_in (decimal n) ≡ Some n
unfolding number_in
number_said n few =
    let wide : n < 2 ^ 64 = omega (arith, few) in
    let digits : list_all is_ascii_digit (decimal n) ≡ true = digits_decimal numerals n wide in
    let value : digits_value 10 (decimal n) ≡ n = digits_value-decimal numerals n wide in
    let some = decimal_nonempty n wide in
    let short = length-decimal-le 10 n (omega arith) (omega (arith, few)) wide in
    let range : is_in_range 1 10 (length (decimal n)) ≡ true = grind (arith, nat_tests) in
    let small : nat_le n 1_000_000_000 ≡ true = grind (arith, nat_tests) in
    rw (range, digits, value, small) refl

module _ {Kind : Type 0} (judge : Judge Kind) (table : Table Kind) (count : ℕ) (skipped : List ℕ)
  where
    abbrev with_rows : List (Row Kind) → RepeatingGroup Kind
    with_rows rows = record { count = count; rows = rows; skipped = skipped }

    -- A GROUP IN ITS PLACE, where no field behind it is inside it
    group_in : (rows : List (Row Kind)) (lines : List (List Cell)) (rest : List Field)
        → GroupFits judge table (with_rows rows) → IsGroup judge (with_rows rows) lines
        → Outside (tags_in (with_rows rows)) rest → Anywhere (tags_in (with_rows rows)) rest
        → Anywhere (tags_in (with_rows rows)) (group_fields count lines ++ rest)
    group_in rows [] rest fit said out k before = k before
    group_in [] (line ∷ lines) rest fit said out k before = absurd fit.first
    group_in (row ∷ rows) (line ∷ lines) rest fit said out k before =
        let group = with_rows (row ∷ rows) in
        let g = tags_in group in
        let all = line ∷ lines in
        let tags = tags_of (row ∷ rows) in
        let p = apart_first count tags fit.apart in
        let members = each_two _ _ (IsMember g) (λ t c k. record {
          count = c;
          inside = ap (λ (b : Bool). b || is_one_of skipped t) k.0;
          skipped = k.1;
        }) tags (none_is count tags p.0)
        (each_two _ _ (λ t. (is_one_of tags t ≡ true) × (is_one_of skipped t ≡ false))
        (λ t a b. (a, b)) tags (each_of tags) fit.kept) in
        let begin = group_begins judge (row ∷ rows) all fit.first p.1 said.said in
        let begun : lines_begun g (flat_map line_fields all ++ rest) ≡ length all =
        ap (count_by (λ x. x.0 == g.first)) (lines_run judge group all rest said.said out)
        ∙ lines_count g all begin in
        let few = said.few in
        let told = number_said (length all) (omega (arith, few)) in (
          rw (same_number count, told, begun, same_number (length all)) refl,
          lines_in_place g all begin (each_part (λ f. IsMember g f.0) line_fields all
              (lines_each judge (λ f. IsMember g f.0) (row ∷ rows) all
              (of_rows judge (IsMember g) (row ∷ rows) members) said.said)) rest k 0
              (omega (arith, few)) ((count, decimal (length all)) ∷ before)
              (start g (decimal (length all)) before fit.plain.count_outside),
        )

-- ---- the items beside a group

abbrev group_parts : GroupTags → GroupTags → List Bool
group_parts g h =
    (g.count == h.count) ∷ (g.first == h.first)
    ∷ bytes_eq g.members h.members ∷ bytes_eq g.skipped h.skipped ∷ []

abbrev is_group : GroupTags → GroupTags → Bool
is_group g h = list_all (λ b. b) (group_parts g h)

same_group : (g h : GroupTags) → is_group g h ≡ true → g ≡ h
same_group g h e =
    let p = all_true (λ b. b) (group_parts g h) e in
    let count = eqb-true g.count h.count p.0 in
    let first = eqb-true g.first h.first p.1.0 in
    let members = (bytes_eq-Decides g.members h.members).0 p.1.1.0 in
    let skipped = (bytes_eq-Decides g.skipped h.skipped).0 p.1.1.1.0 in
    λ i. record { count = count i; first = first i; members = members i; skipped = skipped i }

-- an item beside a group: it has none of its tags, or is the group
abbrev is_apart : {Kind : Type 0} → GroupTags → Item Kind → Bool
is_apart g item = list_all (λ t. not (is_of_group t g)) (item_tags item)

abbrev pub is_beside : {Kind : Type 0} → GroupTags → Item Kind → Bool
is_beside g (Lines group) = is_group g (tags_in group) || is_apart g (Lines group)
is_beside g item = is_apart g item

module _ {Kind : Type 0} (judge : Judge Kind) (table : Table Kind) (fields : List Field)
    (m : Message) (g : GroupTags) where
  outside_place : (fs rest : List Field)
      → AllByRecursion (λ f. is_of_group f.0 g ≡ false) fs → Anywhere g rest
      → Anywhere g (fs ++ rest)
  outside_place [] rest out k before = k before
  outside_place (f ∷ fs) rest out k before =
      let p = either (g.count == f.0) (is_inside g f.0) out.0 in
      let other : (f.0 == g.count) ≡ false = let e = p.0 in grind (arith, nat_tests) in
      (rw (other, p.1) refl, outside_place fs rest out.1 k (f ∷ before))

  item_apart : (item : Item Kind) (rest : List Field) → IsItem judge fields m item
      → is_apart g item ≡ true → Anywhere g rest → Anywhere g (item_fields m item ++ rest)
  item_apart item rest said apart = outside_place (item_fields m item) rest
      (item_tagged judge (λ t. is_of_group t g ≡ false) fields m item
      (all_false (λ t. is_of_group t g) (item_tags item) apart) said)

  items_in_place : (items : List (Item Kind)) → AllByRecursion (IsItem judge fields m) items
      → AllByRecursion (IsFit judge table) items → are_after items ≡ true
      → AllByRecursion (λ item. is_beside g item ≡ true) items
      → Anywhere g (flat_map (item_fields m) items)
  items_in_place [] said fit after beside = λ before. tt
  items_in_place (Lines group ∷ items) said fit after beside =
      let own = tags_in group in
      let tags = flat_map item_tags items in
      let later = flat_map (item_fields m) items in
      let p = both (is_before (Lines group) tags) (are_after items) after in
      let k = items_in_place items said.1 fit.1 p.1 beside.1 in
      elim (either_true (is_group g own) (is_apart g (Lines group)) beside.0) as (λ _.
      Anywhere g (item_fields m (Lines group) ++ later)) [
        | inl is ↦
            let out = items_tagged judge (λ t. is_inside own t ≡ false) fields m items
            (all_false (is_inside own) tags p.0) said.1 in
            let P : GroupTags → Type 0 =
            λ h. Anywhere h later → Anywhere h (item_fields m (Lines group) ++ later) in
            subst P (sym (same_group g own is)) (group_in judge table group.count group.skipped
            group.rows (lines_of group.count m.groups) later fit.0.1.0 said.0 out) k
        | inr apart ↦ item_apart (Lines group) later said.0 apart k
      ]
  items_in_place (item ∷ items) said fit after beside =
      let p = both (is_before item (flat_map item_tags items)) (are_after items) after in
      item_apart item (flat_map (item_fields m) items) said.0 beside.0
      (items_in_place items said.1 fit.1 p.1 beside.1)

-- WHAT IS WRITTEN HAS EACH MEMBER IN ITS PLACE.
pub none_misplaced : {Kind : Type 0} (judge : Judge Kind) (table : Table Kind)
    (fields : List Field) (m : Message) (gs : List GroupTags) (items : List (Item Kind))
    → AllByRecursion (IsItem judge fields m) items → AllByRecursion (IsFit judge table) items
    → are_after items ≡ true → AllByRecursion (λ g. list_all (is_beside g) items ≡ true) gs
    → first_of (in_groups gs) (placed_from [] (flat_map (item_fields m) items)) ≡ None
none_misplaced judge table fields m gs items said fit after beside =
    let placed = placed_from [] (flat_map (item_fields m) items) in
    let each = each_by _ (λ g. AllByRecursion (λ p. misplaced p g ≡ None) placed)
    (λ g h. items_in_place judge table fields m g items said fit after
    (all_true (is_beside g) items h) []) gs beside in
    each_none (in_groups gs) placed (each_by _ _ (λ p h. each_none (misplaced p) gs h) placed
    (each_swapped (λ p g. misplaced p g ≡ None) placed gs each))
