-- A message means what its fields without the header mean, whatever table it is of.
use Rattle.std.proofs.Common.{◌≡◌, ℕ, ◌==◌, ◌&&◌, ◌||◌, not, Bool, true, false, List, []}
use Rattle.std.proofs.Common.{◌∷◌, ◌++◌, codes, Option, Some, None, refl, sym, ap, subst, ◌∙◌, map}
use Rattle.std.proofs.Common.{inl, inr, if◌then◌else◌}
use Rattle.std.specs.Prelude.{cond, find, unwrap_or}
use Rattle.std.specs.List.{AllByRecursion, flat_map, list_all}
use Rattle.std.specs.Option.{option_map}
use Rattle.std.specs.Result.{result_ok}
use Rattle.std.proofs.lemmas.Bool.{eqb-true}
use Rattle.typed_fields.specs.MonthYear.{read_month_year}
use Rattle.field_groups.specs.Field.{Field}
use Rattle.message_tables.specs.declared.table_fault.TableFault.{TableFault}
use Rattle.message_tables.specs.declared.table_fault.TableFault.TheVariants as faults
use Rattle.message_tables.specs.Tables.{Cell, Said, Test, Stands, Is, Need, When, Row, Item, One}
use Rattle.message_tables.specs.Tables.{Party, Lines, RepeatingGroup, Table, GroupTags, ◌>>=◌}
use Rattle.message_tables.specs.Tables.{all_rows, cell_of, cells_of, first_of, flag_of, group_says}
use Rattle.message_tables.specs.Tables.{groups_in, groups_of, has_tag, holds, is_listed, is_needed}
use Rattle.message_tables.specs.Tables.{is_one_of, lines_in, lines_of, or_else, party_in, passes}
use Rattle.message_tables.specs.Tables.{row_at, says, tags_in, text_of, value_at, Role, Tag}
use Rattle.message_tables.specs.Tables.{Verdict}
use Rattle.message_tables.specs.FirstFault.{Marked, Placed, allowed, mark_of, beyond, by_row}
use Rattle.message_tables.specs.FirstFault.{fault_if, first_fault}
use Rattle.message_tables.specs.FirstFault.{group_tags_in, group_tags_of, in_groups, is_passed}
use Rattle.message_tables.specs.FirstFault.{marked, message_in, misplaced, missing, missing_of}
use Rattle.message_tables.specs.FirstFault.{once_in, placed_from, twice, wrong, wrong_version}
use Rattle.value_kinds.specs.ValueKind as kinds
use Rattle.value_kinds.specs.ValueKind.{spelling}
use Rattle.row_values.specs.Kinds.{Kind, DayOf, MonthBeside, TimeBeside, counted, filled, in_month}
use Rattle.row_values.specs.Kinds.{is_at_close, judge, month_beside, verdict_of}
use Rattle.sound_laws.proofs.Each.{both, not_true}
use Rattle.sound_laws.proofs.Stages.{is_other}
use Rattle.life_laws.specs.Receiver.{behind_header, header_tags, is_in_header}
use Rattle.book_laws.specs.Keeps.{In}
use Rattle.book_laws.proofs.HeaderGroups.{AreLike, AreSkipped, IsApart, IsFine, IsOnce, fine_behind}
use Rattle.book_laws.proofs.HeaderGroups.{first_like, group_behind, has_behind, is_apart, keep}
use Rattle.book_laws.proofs.HeaderGroups.{lines_like, map_like}
use Rattle.book_laws.proofs.Tooks.{behind_value}

-- ---- tests of a table

abbrev is_behind : ℕ → Bool
is_behind tag = not (is_one_of header_tags tag)

-- tests, needs and kinds that count on no other tags than these
module _ (tags : ℕ → Bool) where
  abbrev test_on : Test → Bool
  test_on (Stands tag) = tags tag
  test_on (Is tag listed) = tags tag

  abbrev need_on : Need → Bool
  need_on (When condition) = list_all (list_all test_on) condition
  need_on need = true

  abbrev kind_on : Kind → Bool
  kind_on (DayOf month) = tags month
  kind_on (MonthBeside date) = tags date
  kind_on (TimeBeside ord_type) = tags ord_type
  kind_on kind = true

abbrev none_at : ℕ → Bool
none_at tag = false

abbrev member_alone : List ℕ → Row Kind → Bool
member_alone skipped row =
    not (is_one_of skipped row.tag) && (need_on none_at row.need && kind_on none_at row.kind)

abbrev item_behind : List ℕ → Item Kind → Bool
item_behind once (One row) =
    is_behind row.tag && (need_on is_behind row.need && kind_on is_behind row.kind)
item_behind once (Party role) = true
item_behind once (Lines group) =
    group_behind (tags_in group) && (is_one_of once group.count
    && list_all (member_alone group.skipped) group.rows)

-- THE TEST of a table
abbrev pub table_behind : Table Kind → Bool
table_behind t = list_all (item_behind (once_in t)) t.items
    && list_all (λ row. kind_on is_behind row.kind) (all_rows t)

-- ---- lists

or_none : (a b : Option TableFault) → or_else a b ≡ None → (a ≡ None) × (b ≡ None)
or_none None b is = (refl, is)
or_none (Some a) b is = absurd (cc is)

none_or : (a b : Option TableFault) → a ≡ None → b ≡ None → or_else a b ≡ None
none_or a b x y = ap (λ o. or_else o b) x ∙ y

module _ {X : Type 0} (f : X → Option TableFault) where
  first_none : (x : X) (xs : List X) → first_of f xs ≡ None → In x xs → f x ≡ None
  unfolding first_of
  first_none x [] none i = absurd i
  first_none x (y ∷ ys) none (inl same) = ap f same ∙ (or_none (f y) (first_of f ys) none).0
  first_none x (y ∷ ys) none (inr i) = first_none x ys (or_none (f y) (first_of f ys) none).1 i

  none_first : (xs : List X) → ((x : X) → In x xs → f x ≡ None) → first_of f xs ≡ None
  unfolding first_of
  none_first [] each = refl
  none_first (x ∷ xs) each =
      none_or (f x) (first_of f xs) (each x (inl refl)) (none_first xs (λ y i. each y (inr i)))

  first_here : (x : X) (xs : List X) → first_of f (x ∷ xs) ≡ None
      → (f x ≡ None) × (first_of f xs ≡ None)
  unfolding first_of
  first_here x xs none = or_none (f x) (first_of f xs) none

  here_first : (x : X) (xs : List X) → f x ≡ None → first_of f xs ≡ None
      → first_of f (x ∷ xs) ≡ None
  unfolding first_of
  here_first x xs here rest = none_or (f x) (first_of f xs) here rest

  first_same : (xs ys : List X) → xs ≡ ys → first_of f xs ≡ first_of f ys
  first_same xs ys same = ap (first_of f) same

-- ---- what is asked of other fields

-- fields that say the same at these tags
record SayAlike (tags : ℕ → Bool) (a b : List Field) : Type 0 where
  value : (tag : ℕ) → tags tag ≡ true → value_at tag a ≡ value_at tag b
  has : (tag : ℕ) → tags tag ≡ true → has_tag tag a ≡ has_tag tag b

say_alike : (fields : List Field) → SayAlike is_behind (behind_header fields) fields
say_alike fields = record {
  value = λ tag apart. behind_value tag (not_true _ apart) fields;
  has = λ tag apart. has_behind tag (not_true _ apart) fields;
}

none_alike : (a b : List Field) → SayAlike none_at a b
none_alike a b = record { value = λ tag h. absurd (cc h); has = λ tag h. absurd (cc h) }

module _ (tags : ℕ → Bool) (a b : List Field) (alike : SayAlike tags a b) where
  passes_same : (test : Test) → test_on tags test ≡ true → passes a test ≡ passes b test
  passes_same (Stands tag) h = alike.has tag h
  passes_same (Is tag listed) h = ap (is_listed listed) (alike.value tag h)

  tests_same : (tests : List Test) → list_all (test_on tags) tests ≡ true
      → list_all (passes a) tests ≡ list_all (passes b) tests
  tests_same [] h = refl
  tests_same (test ∷ tests) h =
      let p = both (test_on tags test) (list_all (test_on tags) tests) h in
      let here = passes_same test p.0 in
      let rest = tests_same tests p.1 in
      λ i. here i && rest i

  holds_same : (condition : List (List Test)) → list_all (list_all (test_on tags)) condition ≡ true
      → holds condition a ≡ holds condition b
  holds_same [] h = refl
  holds_same (tests ∷ more) h =
      let p = both (list_all (test_on tags) tests) (list_all (list_all (test_on tags)) more) h in
      let here = tests_same tests p.0 in
      let rest = holds_same more p.1 in
      λ i. here i || rest i

  need_same : (need : Need) → need_on tags need ≡ true → is_needed need a ≡ is_needed need b
  need_same (When condition) h = holds_same condition h
  need_same need h = refl

  judge_same : (kind : Kind) → kind_on tags kind ≡ true
      → (text : List ℕ) → judge a kind text ≡ judge b kind text
  unfolding judge
  judge_same (DayOf month) h text =
      ap (λ (v : Said). in_month (v >>= (λ t. result_ok (read_month_year t)))
      (verdict_of (spelling kinds.DayOfMonth text))) (alike.value month h)
  judge_same (MonthBeside date) h text =
      ap (λ (v : Said). filled text (month_beside
      (v >>= (λ t. text_of (verdict_of (spelling kinds.Day t)))) text)) (alike.value date h)
  judge_same (TimeBeside ord_type) h text =
      ap (λ (v : Said). counted (not (is_at_close text) || is_listed (codes "12") v)
      (verdict_of (spelling (kinds.Code (codes "01234567")) text))) (alike.value ord_type h)
  judge_same kind h text = refl

-- ---- a line, and tags behind it that say nothing

module _ (g : GroupTags) (a : IsApart g) (line more : List Field) (skipped : AreSkipped g a more)
    (tag : ℕ) (apart : is_one_of g.skipped tag ≡ false) where
  has_no : (more : List Field) → AreSkipped g a more → has_tag tag more ≡ false
  has_no [] skipped = refl
  has_no (f ∷ more) skipped = ap (λ (b : Bool). b || has_tag tag more)
      (is_other g.skipped f.0 tag skipped.0 apart) ∙ has_no more skipped.1

  has_more : (line : List Field) → has_tag tag (line ++ more) ≡ has_tag tag line
  has_more [] = has_no more skipped
  has_more (f ∷ line) = ap (λ (b : Bool). (f.0 == tag) || b) (has_more line)

  value_no : (more : List Field) → AreSkipped g a more → value_at tag more ≡ None
  value_no [] skipped = refl
  value_no (f ∷ more) skipped =
      ap (λ (b : Bool). option_map (λ (x : Field). x.1) (if b then Some f
      else find (λ (x : Field). x.0 == tag) more))
      (is_other g.skipped f.0 tag skipped.0 apart) ∙ value_no more skipped.1

  value_more : (line : List Field) → value_at tag (line ++ more) ≡ value_at tag line
  value_more [] = value_no more skipped
  value_more (f ∷ line) = by (f.0 == tag) (value_more line)
    where
      by : (b : Bool) → value_at tag (line ++ more) ≡ value_at tag line
          → option_map (λ (x : Field). x.1) (if b then Some f
          else find (λ (x : Field). x.0 == tag) (line ++ more))
          ≡ option_map (λ (x : Field). x.1) (if b then Some f
          else find (λ (x : Field). x.0 == tag) line)
      by true rest = refl
      by false rest = rest

-- so rows say the same of both lines, and miss the same
rows_same : (g : GroupTags) (a : IsApart g) (line more : List Field) → AreSkipped g a more
    → (rows : List (Row Kind)) → list_all (member_alone g.skipped) rows ≡ true
    → (map (cell_of judge (line ++ more)) rows ≡ map (cell_of judge line) rows)
    × (first_of (missing (line ++ more)) rows ≡ first_of (missing line) rows)
unfolding first_of
rows_same g a line more skipped [] alone = (refl, refl)
rows_same g a line more skipped (row ∷ rows) alone =
    let p = both _ _ alone in
    let q = both _ _ p.0 in
    let r = both _ _ q.1 in
    let value = value_more g a line more skipped row.tag (not_true _ q.0) line in
    let has = has_more g a line more skipped row.tag (not_true _ q.0) line in
    let alike = none_alike (line ++ more) line in
    let needed = need_same none_at (line ++ more) line alike row.need r.0 in
    let judged = judge_same none_at (line ++ more) line alike row.kind r.1 in
    let rest = rows_same g a line more skipped rows p.1 in (
      λ i. (Tag row.tag, says row.need (λ text. judged text i) (value i)) ∷ rest.0 i,
      λ i. or_else (fault_if (needed i && not (has i)) (faults.Reason row.tag 1)) (rest.1 i),
    )

-- ---- fields at no fault

row_passes : (p : Row Kind → Bool) (rows : List (Row Kind)) (tag : ℕ) (row : Row Kind)
    → list_all p rows ≡ true → row_at tag rows ≡ Some row → p row ≡ true
row_passes p [] tag row all is = absurd (cc is)
row_passes p (r ∷ rows) tag row all is =
    by (r.tag == tag) is (both (p r) (list_all p rows) all)
    (λ rest later. row_passes p rows tag row rest later)
  where
    by : (b : Bool) → (if b then Some r else row_at tag rows) ≡ Some row
        → (p r ≡ true) × (list_all p rows ≡ true)
        → (list_all p rows ≡ true → row_at tag rows ≡ Some row → p row ≡ true) → p row ≡ true
    by true is both later = let one : r ≡ row = cc is in ap p (sym one) ∙ both.0
    by false is both later = later both.1 is

-- what each group of the items is
record IsGroup (once : List ℕ) (g : GroupTags) : Type 0 where
  apart : IsApart g
  once_is : is_one_of once g.count ≡ true

groups_are : (once : List ℕ) (items : List (Item Kind)) → list_all (item_behind once) items ≡ true
    → (g : GroupTags) → In g (flat_map group_tags_of items) → IsGroup once g
groups_are once [] all g i = absurd i
groups_are once (One row ∷ items) all g i =
    groups_are once items (both _ _ all).1 g i
groups_are once (Party role ∷ items) all g i =
    groups_are once items (both (item_behind once (Party role))
    (list_all (item_behind once) items) all).1 g i
groups_are once (Lines group ∷ items) all g i =
    let p = both (item_behind once (Lines group)) (list_all (item_behind once) items) all in
    by p.0 (λ j. groups_are once items p.1 g j) i
  where
    by : item_behind once (Lines group) ≡ true
        → (In g (flat_map group_tags_of items) → IsGroup once g)
        → In g (tags_in group ∷ flat_map group_tags_of items) → IsGroup once g
    by fits later (inl same) =
        let q = both _ _ fits in
        let r = both _ _ q.1 in
        subst (IsGroup once) (sym same)
        (record { apart = is_apart (tags_in group) q.0; once_is = r.0 })
    by fits later (inr j) = later j

module _ (t : Table Kind) (ok : table_behind t ≡ true) where
  abbrev once : List ℕ
  once = once_in t

  abbrev groups : List GroupTags
  groups = group_tags_in t

  items_ok : list_all (item_behind once) t.items ≡ true
  items_ok = (both _ _ ok).0

  rows_ok : list_all (λ (row : Row Kind). kind_on is_behind row.kind) (all_rows t) ≡ true
  rows_ok = (both _ _ ok).1

  group_is : (g : GroupTags) → In g groups → IsGroup once g
  group_is g i = groups_are once t.items items_ok g i

  -- ---- a tag twice

  twice_none : (before fields : List Field)
      → first_of (twice once) (placed_from before fields) ≡ None
      → first_of (twice once) (placed_from (behind_header before) (behind_header fields))
      ≡ None
  twice_none before [] none = none
  twice_none before (f ∷ fields) none =
      let p = first_here (twice once)
      (record { before = before; field = f; after = fields }) (placed_from (f ∷ before) fields) none
      in
      first_same (twice once) _ _ (ap (placed_from (behind_header before))
      (keep f fields (is_in_header f) refl))
      ∙ by (is_in_header f) refl p.0 (twice_none (f ∷ before) fields p.1)
    where
      by : (h : Bool) → is_in_header f ≡ h
          → fault_if (is_one_of once f.0 && has_tag f.0 before) (faults.Reason f.0 13)
          ≡ None
          → first_of (twice once)
          (placed_from (behind_header (f ∷ before)) (behind_header fields)) ≡ None
          → first_of (twice once) (placed_from (behind_header before)
          (cond (not h) (f ∷ behind_header fields) (behind_header fields))) ≡ None
      by true at here rest =
          first_same (twice once) _ _ (ap (λ (l : List Field).
          placed_from l (behind_header fields)) (sym (keep f before true at))) ∙ rest
      by false at here rest = here_first (twice once)
          (record { before = behind_header before; field = f; after = behind_header fields })
          (placed_from (f ∷ behind_header before) (behind_header fields))
          (ap (λ (b : Bool). fault_if (is_one_of once f.0 && b) (faults.Reason f.0 13))
          (has_behind f.0 at before) ∙ here)
          (first_same (twice once) _ _ (ap (λ (l : List Field).
          placed_from l (behind_header fields)) (sym (keep f before false at))) ∙ rest)

  -- ---- groups

  once_of : (g : GroupTags) (a : IsApart g) → is_one_of once g.count ≡ true
      → (before fields : List Field)
      → first_of (twice once) (placed_from before fields) ≡ None → IsOnce g a before fields
  once_of g a counted before [] none = tt
  once_of g a counted before (f ∷ fields) none =
      let p = first_here (twice once)
      (record { before = before; field = f; after = fields }) (placed_from (f ∷ before) fields) none
      in (
        λ counts. alone (has_tag g.count before)
            (let same : f.0 ≡ g.count = eqb-true f.0 g.count counts in
            sym (ap (λ (n : ℕ). fault_if (is_one_of once n && has_tag n before)
            (faults.Reason n 13)) same ∙ ap (λ (b : Bool). fault_if (b && has_tag g.count before)
            (faults.Reason g.count 13)) counted) ∙ p.0),
        once_of g a counted (f ∷ before) fields p.1,
      )
    where
      alone : (b : Bool) → fault_if (true && b) (faults.Reason g.count 13) ≡ None → b ≡ false
      alone true is = absurd (cc is)
      alone false is = refl

  fine_of : (g : GroupTags) (i : In g groups) (before fields : List Field)
      → first_of (in_groups groups) (placed_from before fields) ≡ None
      → IsFine g (group_is g i).apart before fields
  fine_of g i before [] none = tt
  fine_of g i before (f ∷ fields) none =
      let at : Placed = record { before = before; field = f; after = fields } in
      let p = first_here (in_groups groups) at (placed_from (f ∷ before) fields) none in
      (first_none (misplaced at) g groups p.0 i, fine_of g i (f ∷ before) fields p.1)

  groups_fine : (before fields : List Field)
      → ((g : GroupTags) (i : In g groups) → IsFine g (group_is g i).apart before fields)
      → first_of (in_groups groups) (placed_from before fields) ≡ None
  unfolding first_of
  groups_fine before [] fine = refl
  groups_fine before (f ∷ fields) fine =
      let at : Placed = record { before = before; field = f; after = fields } in
      here_first (in_groups groups) at (placed_from (f ∷ before) fields)
      (none_first (misplaced at) groups (λ g i. (fine g i).0))
      (groups_fine (f ∷ before) fields (λ g i. (fine g i).1))

  -- ---- values

  module _ (fields : List Field) where
    abbrev mark_by : List Field → Field → Option (Row Kind) → Marked
    mark_by beside f row = (f.0, by_row judge (is_passed t f.0) beside f.1 row)

    mark_same : (f : Field) → marked judge t (behind_header fields) f ≡ marked judge t fields f
    mark_same f = by (row_at f.0 (all_rows t)) refl
      where
        by : (o : Option (Row Kind)) → row_at f.0 (all_rows t) ≡ o
            → mark_by (behind_header fields) f o ≡ mark_by fields f o
        by None is = refl
        by (Some row) is =
            let kind = row_passes (λ (r : Row Kind). kind_on is_behind r.kind) (all_rows t) f.0 row
            rows_ok is in
            let same = judge_same is_behind (behind_header fields) fields (say_alike fields)
            row.kind kind f.1 in
            let at : Verdict → Marked = λ v. (f.0, allowed row.need (mark_of v)) in ap at same

    marks_none : (m : Marked → Option TableFault) (all : List Field)
        → first_of m (map (marked judge t fields) all) ≡ None
        → first_of m (map (marked judge t (behind_header fields)) (behind_header all)) ≡ None
    marks_none m [] none = none
    marks_none m (f ∷ all) none =
        let p = first_here m (marked judge t fields f) (map (marked judge t fields) all) none in
        by (is_in_header f) (ap m (mark_same f) ∙ p.0) (marks_none m all p.1)
      where
        by : (h : Bool) → m (marked judge t (behind_header fields) f) ≡ None
            → first_of m (map (marked judge t (behind_header fields)) (behind_header all)) ≡ None
            → first_of m (map (marked judge t (behind_header fields))
            (cond (not h) (f ∷ behind_header all) (behind_header all))) ≡ None
        by true here rest = rest
        by false here rest = here_first m (marked judge t (behind_header fields) f)
            (map (marked judge t (behind_header fields)) (behind_header all)) here rest

    -- ---- presence

    module _ (twice_ok : first_of (twice once) (placed_from [] fields) ≡ None)
        (groups_ok : first_of (in_groups groups) (placed_from [] fields) ≡ None) where
      -- the group of an item is one of the table
      group_in : (items : List (Item Kind)) (group : RepeatingGroup Kind)
          → In (Lines group) items → In (tags_in group) (flat_map group_tags_of items)
      group_in [] group i = absurd i
      group_in (One row ∷ items) group (inl same) = absurd (cc same)
      group_in (Party role ∷ items) group (inl same) = absurd (cc same)
      group_in (Lines other ∷ items) group (inl same) =
          let one : group ≡ other = cc same in inl (ap tags_in one)
      group_in (One row ∷ items) group (inr i) = group_in items group i
      group_in (Party role ∷ items) group (inr i) = group_in items group i
      group_in (Lines other ∷ items) group (inr i) = inr (group_in items group i)

      -- what is known of an item
      abbrev Fits : Item Kind → Type 0
      Fits (One row) = (is_behind row.tag ≡ true) × (need_on is_behind row.need ≡ true)
          × (kind_on is_behind row.kind ≡ true)
      Fits (Party role) = Unit {0}
      Fits (Lines group) = (a : IsApart (tags_in group)) × AreLike (tags_in group) a
          (lines_in (tags_in group) fields) (lines_in (tags_in group) (behind_header fields))
          × (list_all (member_alone group.skipped) group.rows ≡ true)

      fits_one : (item : Item Kind) → In item t.items → item_behind once item ≡ true → Fits item
      fits_one (One row) i ok = let q = both _ _ ok in let r = both _ _ q.1 in (q.0, r.0, r.1)
      fits_one (Party role) i ok = tt
      fits_one (Lines group) i ok =
          let q = both _ _ ok in
          let r = both _ _ q.1 in
          let j = group_in t.items group i in
          let is = group_is (tags_in group) j in (
            is.apart,
            lines_like (tags_in group) is.apart fields
                (fine_of (tags_in group) j [] fields groups_ok)
                (once_of (tags_in group) is.apart is.once_is [] fields twice_ok),
            r.1,
          )

      fits_each : (items : List (Item Kind)) → ((item : Item Kind) → In item items
          → In item t.items) → list_all (item_behind once) items ≡ true
          → AllByRecursion Fits items
      fits_each [] among all = tt
      fits_each (item ∷ items) among all =
          let p = both (item_behind once item) (list_all (item_behind once) items) all
          in (
            fits_one item (among item (inl refl)) p.0,
            fits_each items (λ x i. among x (inr i)) p.1,
          )

      missing_same : (items : List (Item Kind)) → AllByRecursion Fits items
          → first_of (missing_of (behind_header fields)) items
          ≡ first_of (missing_of fields) items
      unfolding first_of
      missing_same [] fits = refl
      missing_same (One row ∷ items) fits =
          let alike = say_alike fields in
          let needed = need_same is_behind (behind_header fields) fields alike row.need fits.0.1 in
          let has = alike.has row.tag fits.0.0 in
          let rest = missing_same items fits.1 in
          λ i. or_else (fault_if (needed i && not (has i)) (faults.Reason row.tag 1)) (rest i)
      missing_same (Party role ∷ items) fits = missing_same items fits.1
      missing_same (Lines group ∷ items) fits =
          let here = first_like (tags_in group) fits.0.0
          (λ (line : List Field). first_of (missing line) group.rows)
          (λ line more skipped.
          (rows_same (tags_in group) fits.0.0 line more skipped group.rows fits.0.2).1)
          (lines_in (tags_in group) fields) (lines_in (tags_in group) (behind_header fields))
          fits.0.1 in
          let rest = missing_same items fits.1 in
          λ i. or_else (here i) (rest i)

      -- ---- what is said

      group_same : (items : List (Item Kind)) → AllByRecursion Fits items
          → map (group_says judge (behind_header fields)) (flat_map groups_of items)
          ≡ map (group_says judge fields) (flat_map groups_of items)
      group_same [] fits = refl
      group_same (One row ∷ items) fits = group_same items fits.1
      group_same (Party role ∷ items) fits = group_same items fits.1
      group_same (Lines group ∷ items) fits =
          let here = map_like (tags_in group) fits.0.0
          (λ (line : List Field). map (cell_of judge line) group.rows)
          (λ line more skipped.
          (rows_same (tags_in group) fits.0.0 line more skipped group.rows fits.0.2).0)
          (lines_in (tags_in group) fields) (lines_in (tags_in group) (behind_header fields))
          fits.0.1 in
          let rest = group_same items fits.1 in
          λ i. (group.count, here i) ∷ rest i

      cells_same : (said : List (ℕ × List (List Cell))) (items : List (Item Kind))
          → AllByRecursion Fits items → flat_map (cells_of judge (behind_header fields) said) items
          ≡ flat_map (cells_of judge fields said) items
      cells_same said [] fits = refl
      cells_same said (One row ∷ items) fits =
          let alike = say_alike fields in
          let value = alike.value row.tag fits.0.0 in
          let judged = judge_same is_behind (behind_header fields) fields alike row.kind fits.0.2 in
          let rest = cells_same said items fits.1 in
          λ i. (Tag row.tag, says row.need (λ text. judged text i) (value i)) ∷ rest i
      cells_same said (Party role ∷ items) fits =
          let rest = cells_same said items fits.1 in
          λ i. (Role role, party_in role (lines_of 453 said)) ∷ rest i
      cells_same said (Lines group ∷ items) fits = cells_same said items fits.1

      all_fit : AllByRecursion Fits t.items
      all_fit = fits_each t.items (λ item i. i) items_ok

      no_resend : (fields : List Field) → value_at 97 (behind_header fields) ≡ None
      no_resend [] = refl
      no_resend (f ∷ fields) = by (is_in_header f) (f.0 == 97) refl refl (no_resend fields)
        where
          by : (h b : Bool) → is_in_header f ≡ h → (f.0 == 97) ≡ b
              → value_at 97 (behind_header fields) ≡ None
              → value_at 97 (cond (not h) (f ∷ behind_header fields) (behind_header fields)) ≡ None
          by true b at is rest = rest
          by false true at is rest =
              absurd (cc (at, ap (is_one_of header_tags) (eqb-true f.0 97 is)))
          by false false at is rest =
              ap (λ (b : Bool). option_map (λ (x : Field). x.1) (if b then Some f
              else find (λ (x : Field). x.0 == 97) (behind_header fields))) is ∙ rest

      -- THE MESSAGE IS THE SAME without the header, but for PossResend(97).
      pub said_behind : message_in judge t (behind_header fields)
          ≡ record (message_in judge t fields) { resend = false }
      said_behind =
          let said = group_same t.items all_fit in
          let resend = ap (λ (v : Option (List ℕ)). unwrap_or (option_map flag_of v) false)
          (no_resend fields) in
          (λ i. record {
            letter = t.letter;
            resend = resend i;
            cells = flat_map (cells_of judge (behind_header fields) (said i)) t.items;
            groups = said i;
          })
          ∙ (λ i. record {
            letter = t.letter;
            resend = false;
            cells = cells_same (map (group_says judge fields) (groups_in t)) t.items all_fit i;
            groups = map (group_says judge fields) (groups_in t);
          })

    -- FIELDS AT NO FAULT are at none without the header.
    pub record IsBehind : Type 0 where
      pub none : first_fault judge t (behind_header fields) ≡ None
      pub said : message_in judge t (behind_header fields)
          ≡ record (message_in judge t fields) { resend = false }

    pub is_behind_header : first_fault judge t fields ≡ None → IsBehind
    unfolding first_fault
    is_behind_header none =
        let a = or_none _ _ none in
        let b = or_none _ _ a.1 in
        let c = or_none _ _ b.1 in
        let d = or_none _ _ c.1 in
        let e = or_none _ _ d.1 in
        let fine : (g : GroupTags) (i : In g groups)
        → IsFine g (group_is g i).apart [] (behind_header fields) =
        λ g i. fine_behind g (group_is g i).apart [] fields (fine_of g i [] fields c.0)
        (once_of g (group_is g i).apart (group_is g i).once_is [] fields a.0) in
        record {
          none = none_or _ _ (twice_none [] fields a.0)
              (none_or _ _ (marks_none wrong_version fields b.0)
              (none_or _ _ (groups_fine [] (behind_header fields) fine)
              (none_or _ _ (marks_none wrong fields d.0)
              (none_or _ _ (missing_same a.0 c.0 t.items (all_fit a.0 c.0) ∙ e.0)
              (marks_none beyond fields e.1)))));
          said = said_behind a.0 c.0;
        }
