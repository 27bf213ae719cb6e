-- A table whose rows are found by their tags, and one pass over the fields of a message by it.
use Rattle.std.proofs.Common.{◌≡◌, ℕ, zero, suc, ◌+◌, ◌<◌, ◌≤◌, Bool, true, false, cond, eqb}
use Rattle.std.proofs.Common.{List, [], ◌∷◌, ◌++◌, length, get_or, take, map, replicate, Some, None}
use Rattle.std.proofs.Common.{Option, refl, sym, subst, ap, ◌∙◌, arith}
use Rattle.std.specs.Prelude.{◌&&◌, ◌||◌, ◌==◌, not, position}
use Rattle.std.specs.Borrow.{Bor}
use Rattle.std.specs.List.{AllByRecursion, flat_map, list_all, list_any, slice_get}
use Rattle.std.proofs.Math.ListN.{set}
use Rattle.std.proofs.lemmas.Bool.Decides.{nat_tests}
use Rattle.std.proofs.lemmas.Option.{get_or_from_slice_get}
use Rattle.std.proofs.lemmas.Grind.{flat_map-append}
use Rattle.std.proofs.lemmas.List.{append-nil, map-append, take_more}
use Rattle.std.proofs.lemmas.List.Folds.{list_all-append}
use Rattle.field_groups.specs.Field.{Field}
use Rattle.message_tables.specs.declared.table.Row.{Row as CodeRow}
use Rattle.message_tables.specs.declared.table.Item.{Item as CodeItem}
use Rattle.message_tables.specs.declared.table.Table.{Table as CodeTable}
use Rattle.message_tables.specs.declared.table_fault.Mark.{Mark}
use Rattle.message_tables.specs.declared.table_fault.Mark.TheVariants as marks
use Rattle.message_tables.specs.declared.table_fault.TableFault.TheVariants as faults
use Rattle.message_tables.specs.Tables.{Item, Need, One, Party, Lines, Required, Optional, Lenient}
use Rattle.message_tables.specs.Tables.{Fixed, When, Row, Table, all_rows, has_tag}
use Rattle.message_tables.specs.Tables.{is_needed, is_one_of, row_at, tags_in}
use Rattle.message_tables.specs.FirstFault.{fault_if, first_fault, group_tags_in, group_tags_of}
use Rattle.message_tables.specs.FirstFault.{is_of_group, marked, missing, once_in}
use Rattle.message_tables.specs.FirstFault.{allowed, mark_of, without_row}
use Rattle.message_tables.specs.CodeTables.{item_of, need_of, row_of, table_of}
use Rattle.message_tables.specs.Plain.{IsLoose, IsSaidItem, fits_at, is_good, lacks}
use Rattle.message_tables.proofs.Mapped.{groups_mapped, once_mapped}
use Rattle.message_tables.proofs.OnePass.{absent_is_whole, first_is_once, good_mark, is_first}
use Rattle.message_tables.proofs.OnePass.{lacks_none, sound_is_clean}
use Rattle.message_tables.proofs.Placed.{turned}
use Rattle.row_values.specs.declared.kinds.Kind.{Kind as CodeKind}
use Rattle.row_values.specs.CodeKinds.{kind_of}
use Rattle.row_values.specs.Kinds.{Kind, judge}
use Rattle.first_faults.specs.declared.indexed.TagRow.{TagRow}
use Rattle.first_faults.specs.declared.indexed.TagRow.TheVariants.{Absent, Own, Member, Passed}
use Rattle.first_faults.specs.declared.indexed.Span.{Span}
use Rattle.first_faults.specs.Indexed.{AreGoodFields, AreSaid, AreTagRows}
use Rattle.first_faults.specs.Indexed.{IsAlone}
use Rattle.first_faults.specs.Indexed.{IsApartItem, IsFirstRow, IsGoodField, IsRowOf, IsTagRow}
use Rattle.first_faults.specs.Indexed.{IsWholeItem, is_said, may_be_needed, needed_of, of_tag}
use Rattle.first_faults.specs.Indexed.{own, row_in, with_place}
use Rattle.first_faults.proofs.FirstFaults.{with_none, with_row}
use Rattle.first_faults.proofs.OnePass.{good_is_allowed, loose, one_more}

-- ---- rows by their tags

-- the row that is found of a tag has it
same_tag : (tag : ℕ) (rows : List (Row CodeKind)) (row : Row CodeKind)
    → Some row ≡ row_at tag rows → row.tag ≡ tag
same_tag tag [] row e = absurd cc
same_tag tag (one ∷ rows) row e = by (one.tag == tag) refl e (same_tag tag rows row)
  where
    by : (b : Bool) → eqb one.tag tag ≡ b → Some row ≡ cond b (Some one) (row_at tag rows)
        → (Some row ≡ row_at tag rows → row.tag ≡ tag) → row.tag ≡ tag
    by true same e later =
        let is : row ≡ one = cc in
        ap (λ (r : Row CodeKind). r.tag) is ∙ (let t : one.tag ≡ tag =
        grind (arith, nat_tests) in t)
    by false other e later = later e

module _ (table : CodeTable CodeKind) where
  pub own_row : (tag : ℕ) (row : Bor (CodeRow CodeKind)) → IsFirstRow table tag row.now
      → IsAlone (own table) tag → IsTagRow table (Own row)
  own_row tag row first alone =
      let same : row.now.tag ≡ tag =
      same_tag tag (all_rows (own table)) (row_of (λ (k : CodeKind). k) row.now) first in
      subst (λ (t : ℕ). IsFirstRow table t row.now × IsAlone (own table) t) (sym same)
      (first, alone)

  pub member_row : (tag : ℕ) (row : Bor (CodeRow CodeKind)) → IsFirstRow table tag row.now
      → is_one_of (once_in (own table)) tag ≡ false → IsTagRow table (Member row)
  member_row tag row first many =
      let same : row.now.tag ≡ tag =
      same_tag tag (all_rows (own table)) (row_of (λ (k : CodeKind). k) row.now) first in
      subst (λ (t : ℕ). IsFirstRow table t row.now × (is_one_of (once_in (own table)) t ≡ false))
      (sym same) (first, many)

  -- no rows
  pub no_rows : (n : ℕ) → AreTagRows table (replicate n Absent)
  no_rows zero place = tt
  no_rows (suc n) zero = tt
  no_rows (suc n) (suc place) = no_rows n place

  -- one more row at a place
  pub kept_row : (rows : List TagRow) (at : ℕ) (row : TagRow) → AreTagRows table rows
      → IsTagRow table row → AreTagRows table (set rows at row)
  kept_row [] at row all is place = tt
  kept_row (one ∷ rows) zero row all is zero = is
  kept_row (one ∷ rows) zero row all is (suc place) = all (suc place)
  kept_row (one ∷ rows) (suc at) row all is zero = all zero
  kept_row (one ∷ rows) (suc at) row all is (suc place) =
      kept_row rows at row (λ n. all (suc n)) is place

  pub of_tag_is : (tag : ℕ) (row : TagRow) → IsTagRow table row
      → IsRowOf table tag (of_tag tag row)
  of_tag_is tag Absent is = tt
  of_tag_is tag (Own row) is = by (row.now.tag == tag) refl
    where
      by : (b : Bool) → eqb row.now.tag tag ≡ b → IsRowOf table tag (cond b (Own row) Absent)
      by true e = let same : row.now.tag ≡ tag = grind (arith, nat_tests) in rw (← same) is
      by false e = tt
  of_tag_is tag (Member row) is = by (row.now.tag == tag) refl
    where
      by : (b : Bool) → eqb row.now.tag tag ≡ b → IsRowOf table tag (cond b (Member row) Absent)
      by true e = let same : row.now.tag ≡ tag = grind (arith, nat_tests) in rw (← same) is
      by false e = tt
  of_tag_is tag (Passed one) is = by (one == tag) refl
    where
      by : (b : Bool) → eqb one tag ≡ b → IsRowOf table tag (cond b (Passed one) Absent)
      by true e = let same : one ≡ tag = grind (arith, nat_tests) in rw (← same) is
      by false e = tt

-- a tag of a group is passed over
pub is_passed_in : (strict groups : Bool) → groups ≡ true → (not strict || groups) ≡ true
is_passed_in true groups h = h
is_passed_in false groups h = refl

-- ---- rows that a message may have to say

-- a row whose field is found, and one that has none
pub said_found : (fields : List Field) (row : Row Kind) (place : ℕ)
    → Some place ≡ position (λ (f : Field). f.0 == row.tag) fields → true ≡ is_said fields row
said_found fields row place e = rw (is_first row.tag fields place (sym e)).there refl

pub said_not_found : (fields : List Field) (row : Row Kind)
    → None ≡ position (λ (f : Field). f.0 == row.tag) fields
    → not (is_needed row.need fields) ≡ is_said fields row
said_not_found fields row e = by (has_tag row.tag fields) (lacks_none row.tag fields e)
  where
    by : (b : Bool) → true ≡ not b
        → not (is_needed row.need fields) ≡ (b || not (is_needed row.need fields))
    by false h = refl
    by true h = absurd cc

-- one more row that is said
pub more_said : (fields : List Field) (rows : List (Option (Bor (CodeRow CodeKind)))) (i : ℕ)
    → (row : Option (Bor (CodeRow CodeKind))) → row ≡ get_or rows i row → i < length rows
    → list_all (is_said fields) (flat_map row_in (take i rows)) ≡ true
    → list_all (is_said fields) (row_in row) ≡ true
    → list_all (is_said fields) (flat_map row_in (take (i + 1) rows)) ≡ true
more_said fields rows i row at lt so_far said =
    let more : take (i + 1) rows ≡ take i rows ++ row ∷ [] =
    take_more rows i row lt
    ∙ ap (λ (x : Option (Bor (CodeRow CodeKind))). take i rows ++ x ∷ []) (sym at) in
    let all : flat_map row_in (take (i + 1) rows) ≡ flat_map row_in (take i rows) ++ row_in row =
    ap (flat_map row_in) more ∙ flat_map-append row_in (take i rows) (row ∷ [])
    ∙ ap (λ (last : List (Row Kind)). flat_map row_in (take i rows) ++ last)
    (append-nil (row_in row)) in
    ap (list_all (is_said fields)) all
    ∙ list_all-append (is_said fields) (flat_map row_in (take i rows)) (row_in row)
    ∙ rw (so_far, said) refl

pub and_left : (a b : Bool) → (a && b) ≡ true → a ≡ true
and_left true b h = refl
and_left false b h = h

pub and_right : (a b : Bool) → (a && b) ≡ true → b ≡ true
and_right true b h = h
and_right false b h = absurd cc

-- a row that is said is not missing
not_missing : (fields : List Field) (row : Row Kind) → is_said fields row ≡ true
    → missing fields row ≡ None
not_missing fields row = by (has_tag row.tag fields) (is_needed row.need fields)
  where
    by : (there needed : Bool) → (there || not needed) ≡ true
        → fault_if (needed && not there) (faults.Reason row.tag 1) ≡ None
    by true true h = refl
    by true false h = refl
    by false true h = absurd cc
    by false false h = refl

-- an item whose needed row is said, and which is whole
said_item : (fields : List Field) (item : Item Kind)
    → list_all (is_said fields) (needed_of item) ≡ true
    → IsWholeItem fields item → IsSaidItem fields item
said_item fields (One row) said whole = by row.need refl said
  where
    unneeded_row : is_needed row.need fields ≡ false → missing fields row ≡ None
    unneeded_row none = rw none refl

    by : (need : Need) → row.need ≡ need
        → list_all (is_said fields) (cond (may_be_needed need) (row ∷ []) []) ≡ true
        → missing fields row ≡ None
    by Required e said = not_missing fields row (and_left _ _ said)
    by (When condition) e said = not_missing fields row (and_left _ _ said)
    by Optional e said = unneeded_row (rw e refl)
    by Lenient e said = unneeded_row (rw e refl)
    by (Fixed text) e said = unneeded_row (rw e refl)
said_item fields (Party role) said whole = tt
said_item fields (Lines group) said whole = whole

said_items : (fields : List Field) (items : List (Item Kind)) → AreSaid fields items
    → AllByRecursion (IsWholeItem fields) items → AllByRecursion (IsSaidItem fields) items
said_items fields [] said whole = tt
said_items fields (item ∷ items) said whole =
    let both : (list_all (is_said fields) (needed_of item)
    && list_all (is_said fields) (flat_map needed_of items)) ≡ true =
    sym (list_all-append (is_said fields) (needed_of item) (flat_map needed_of items)) ∙ said in (
      said_item fields item (and_left _ _ both) whole.0,
      said_items fields items (and_right _ _ both) whole.1,
    )

-- ---- groups

pub more_whole : (fields : List Field) (items : List (CodeItem CodeKind)) (i : ℕ)
    → (item : CodeItem CodeKind) → item ≡ get_or items i item → i < length items
    → AllByRecursion (IsWholeItem fields) (map (item_of kind_of) (take i items))
    → IsWholeItem fields (item_of kind_of item)
    → AllByRecursion (IsWholeItem fields) (map (item_of kind_of) (take (i + 1) items))
more_whole fields items i item at lt so_far whole =
    let more : map (item_of kind_of) (take (i + 1) items)
    ≡ map (item_of kind_of) (take i items) ++ item_of kind_of item ∷ [] =
    ap (map (item_of kind_of)) (take_more items i item lt
    ∙ ap (λ (x : CodeItem CodeKind). take i items ++ x ∷ []) (sym at))
    ∙ map-append (item_of kind_of) (take i items) (item ∷ []) in
    rw more (one_more
    (IsWholeItem fields) (map (item_of kind_of) (take i items)) (item_of kind_of item) so_far whole)

or_left : (a b : Bool) → (a || b) ≡ false → a ≡ false
or_left true b h = absurd cc
or_left false b h = refl

or_right : (a b : Bool) → (a || b) ≡ false → b ≡ false
or_right true b h = absurd cc
or_right false b h = h

pub is_off : (b : Bool) → not b ≡ true → b ≡ false
is_off true h = absurd cc
is_off false h = refl

-- a tag that no field has
no_tag : (tag : ℕ) (fields : List Field)
    → ((i : ℕ) → i < length fields → eqb (get_or fields i (0, [])).0 tag ≡ false)
    → lacks fields tag ≡ true
no_tag tag [] h = refl
no_tag tag (f ∷ fs) h =
    let here : eqb f.0 tag ≡ false = h 0 (omega arith) in
    let later : lacks fs tag ≡ true = no_tag tag fs (λ i lt. h (suc i) (omega (arith, lt))) in
    rw here later

no_tags : (fields : List Field) (tags : List ℕ)
    → ((i : ℕ) → i < length fields → is_one_of tags (get_or fields i (0, [])).0 ≡ false)
    → list_all (lacks fields) tags ≡ true
no_tags fields [] h = refl
no_tags fields (tag ∷ tags) h =
    let here : lacks fields tag ≡ true =
    no_tag tag fields
    (λ i lt. turned tag (get_or fields i (0, [])).0 (or_left _ _ (h i lt))) in
    let later : list_all (lacks fields) tags ≡ true =
    no_tags fields tags (λ i lt. or_right _ _ (h i lt)) in
    rw here later

-- fields that are in no group leave each group whole
absent : (fields : List Field) (items : List (Item Kind))
    → ((i : ℕ) → i < length fields → list_any (is_of_group (get_or fields i (0, [])).0)
    (flat_map group_tags_of items) ≡ false)
    → AllByRecursion (IsWholeItem fields) items
absent fields [] h = tt
absent fields (One row ∷ items) h = (tt, absent fields items h)
absent fields (Party role ∷ items) h = (tt, absent fields items h)
absent fields (Lines group ∷ items) h =
    let alone = λ (i : ℕ) (lt : i < length fields). or_left
    (is_of_group (get_or fields i (0, [])).0 (tags_in group)) _ (h i lt) in
    let count : lacks fields group.count ≡ true =
    no_tag group.count fields (λ i lt.
    turned group.count (get_or fields i (0, [])).0 (or_left _ _ (alone i lt))) in
    let members : list_all (lacks fields) (tags_in group).members ≡ true =
    no_tags fields (tags_in group).members
    (λ i lt. or_left _ _ (or_right _ _ (alone i lt))) in
    let skipped : list_all (lacks fields) group.skipped ≡ true =
    no_tags fields group.skipped (λ i lt. or_right _ _ (or_right _ _ (alone i lt))) in (
      absent_is_whole fields group (rw (count, members, skipped) refl),
      absent fields items (λ i lt. or_right _ _ (h i lt)),
    )

-- ---- the pass

-- the first field of a row that is in no group, with a good value
pub own_good : (table : CodeTable CodeKind) (fields : List Field) (place tag : ℕ)
    → (value : List ℕ) (row : CodeRow CodeKind) → Some (tag, value) ≡ slice_get fields place
    → IsFirstRow table tag row → IsAlone (own table) tag
    → (is_one_of (once_in (table_of kind_of table)) tag && has_tag tag (take place fields)) ≡ false
    → fits_at judge fields (row_of kind_of row) (Some value) ≡ true
    → IsGoodField (table_of kind_of table) fields place true
own_good table fields place tag value row at is alone once fit = record {
  loose = loose (table_of kind_of table) fields place (tag, value) _ at once
      (with_row table fields tag value (row_of (λ (k : CodeKind). k) row) is) (good_mark _ fit);
  alone = λ _.
      ap (λ (f : Field). list_any (is_of_group f.0) (group_tags_in (table_of kind_of table)))
      (get_or_from_slice_get fields place (tag, value) (0, []) (sym at))
      ∙ ap (list_any (is_of_group tag)) (groups_mapped kind_of table) ∙ alone;
}

and_false : (a : Bool) → (a && false) ≡ false
and_false true = refl
and_false false = refl

-- the same of a field whose tag did not come before, and whose value is good beside any need
pub new_good : (table : CodeTable CodeKind) (fields : List Field) (place tag : ℕ)
    → (value : List ℕ) (row : CodeRow CodeKind) → Some (tag, value) ≡ slice_get fields place
    → IsFirstRow table tag row → IsAlone (own table) tag
    → has_tag tag (take place fields) ≡ false
    → is_good (mark_of (judge fields (kind_of row.kind) value)) ≡ true
    → IsGoodField (table_of kind_of table) fields place true
new_good table fields place tag value row at is alone new good =
    own_good table fields place tag value row at is alone (rw new (and_false _))
    (ap (λ (m : Mark). is_good (allowed (need_of row.need) m)) (good_mark _ good)
    ∙ good_is_allowed (need_of row.need))

-- a good field of which nothing more is known
pub other_good : (table : Table Kind) (fields : List Field) (place : ℕ)
    → IsLoose judge fields table place → IsGoodField table fields place false
other_good table fields place is = record { loose = is; alone = λ e. absurd cc }

-- a field with a good mark that does not stand twice
pub marked_loose : (table : CodeTable CodeKind) (fields : List Field) (place tag : ℕ)
    → (value : List ℕ) (mark : Mark) → Some (tag, value) ≡ slice_get fields place
    → (is_one_of (once_in (own table)) tag && has_tag tag (take place fields)) ≡ false
    → (tag, mark) ≡ marked judge (table_of kind_of table) fields (tag, value)
    → is_good mark ≡ true → IsLoose judge fields (table_of kind_of table) place
marked_loose table fields place tag value mark at once is fit =
    loose (table_of kind_of table) fields place (tag, value) mark at
    (ap (λ (tags : List ℕ). is_one_of tags tag && has_tag tag (take place fields))
    (once_mapped kind_of table) ∙ once) is (good_mark mark fit)

-- a field without a row that is the first of its tag, and passed over
pub passed_good : (table : CodeTable CodeKind) (fields : List Field) (place tag : ℕ)
    → (value : List ℕ) → Some (tag, value) ≡ slice_get fields place
    → IsRowOf table tag (Passed tag)
    → Some place ≡ position (λ (f : Field). f.0 == tag) fields → (length value == 0) ≡ false
    → IsGoodField (table_of kind_of table) fields place false
passed_good table fields place tag value at is first filled =
    other_good (table_of kind_of table) fields place
    (loose (table_of kind_of table) fields place (tag, value) _ at
    (first_is_once (once_in (table_of kind_of table)) fields tag place first)
    (with_none table fields tag value is.0)
    (ap (λ (passed : Bool). without_row passed value) is.1 ∙ good value filled))
  where
    good : (value : List ℕ) → (length value == 0) ≡ false → without_row true value ≡ marks.Good
    good [] h = absurd cc
    good (byte ∷ bytes) h = refl

pub no_fields : (table : Table Kind) (fields : List Field)
    → AreGoodFields table fields 0 (record { from = 0; to = 0 })
no_fields table fields = record {
  ordered = omega arith;
  within = omega arith;
  loose = λ place lt. absurd (omega (arith, lt));
  before = λ place lt. absurd (omega (arith, lt));
  behind = λ place le lt. absurd (omega (arith, lt));
}

-- one more field
pub more_fields : (table : Table Kind) (fields : List Field) (i : ℕ) (span : Span) (alone : Bool)
    → AreGoodFields table fields i span → IsGoodField table fields i alone
    → AreGoodFields table fields (i + 1) (with_place span i alone)
more_fields table fields i span alone so_far good = by alone good.alone (span.to == 0) refl
  where
    at_last : {P : ℕ → Type 0} → ((place : ℕ) → place < i → P place) → P i
        → (place : ℕ) → place < i + 1 → P place
    at_last {P} before here place lt = by_place (place == i) refl
      where
        by_place : (b : Bool) → (place == i) ≡ b → P place
        by_place true e = let same : place ≡ i = grind (arith, nat_tests, e) in rw same here
        by_place false e = before place (grind (arith, nat_tests, lt, e))

    more_loose : (place : ℕ) → place < i + 1 → IsLoose judge fields table place
    more_loose = at_last so_far.loose good.loose

    by : (alone : Bool)
        → (alone ≡ true → IsAlone table (get_or fields i (0, [])).0)
        → (first : Bool) → (span.to == 0) ≡ first
        → AreGoodFields table fields (i + 1) (with_place span i alone)
    by true here first e = record {
      ordered = so_far.ordered;
      within = omega (arith, so_far.within);
      loose = more_loose;
      before = so_far.before;
      behind = λ place le lt.
          at_last {P = λ n. span.to ≤ n → IsAlone table (get_or fields n (0, [])).0}
          (λ n below past. so_far.behind n past below) (λ past. here refl) place lt le;
    }
    by false here true e =
        let none : span.to ≡ 0 = grind (arith, nat_tests, e) in
        rw e (record {
          ordered = omega arith;
          within = omega arith;
          loose = more_loose;
          before = λ place lt. so_far.behind place (omega (arith, none)) lt;
          behind = λ place le lt. absurd (omega (arith, le, lt));
        })
    by false here false e =
        rw e (record {
          ordered = omega (arith, so_far.ordered, so_far.within);
          within = omega arith;
          loose = more_loose;
          before = so_far.before;
          behind = λ place le lt. absurd (omega (arith, le, lt));
        })

-- good fields that lack no row are at no fault, where each group is whole
pub whole_fields : (table : Table Kind) (fields : List Field) (count : ℕ) (span : Span)
    → length fields ≤ count → AreGoodFields table fields count span → AreSaid fields table.items
    → AllByRecursion (IsWholeItem fields) table.items → first_fault judge table fields ≡ None
whole_fields table fields count span all good said whole =
    sym (sound_is_clean judge table fields (record {
      loose = λ place lt. good.loose place (omega (arith, lt, all));
      said = said_items fields table.items said whole;
    }))

-- the same where each field is known to be in no group
pub alone_fields : (table : Table Kind) (fields : List Field) (count : ℕ) (span : Span)
    → length fields ≤ count → AreGoodFields table fields count span → AreSaid fields table.items
    → span.to ≡ 0 → first_fault judge table fields ≡ None
alone_fields table fields count span all good said none =
    whole_fields table fields count span all good said
    (absent fields table.items
    (λ i lt. good.behind i (omega (arith, none)) (omega (arith, lt, all))))

-- items of whose groups no field stands outside of a span
pub apart_items : (fields : List Field) (span : Span) (items : List (Item Kind))
    → span.from ≤ span.to → span.to ≤ length fields
    → ((i : ℕ) → i < span.from → list_any (is_of_group (get_or fields i (0, [])).0)
    (flat_map group_tags_of items) ≡ false)
    → ((i : ℕ) → span.to ≤ i → i < length fields
    → list_any (is_of_group (get_or fields i (0, [])).0) (flat_map group_tags_of items) ≡ false)
    → AllByRecursion (IsApartItem fields span) items
apart_items fields span [] ordered within before behind = tt
apart_items fields span (One row ∷ items) ordered within before behind =
    (tt, apart_items fields span items ordered within before behind)
apart_items fields span (Party role ∷ items) ordered within before behind =
    (tt, apart_items fields span items ordered within before behind)
apart_items fields span (Lines group ∷ items) ordered within before behind = (
  record {
    ordered = ordered;
    within = within;
    before = λ i lt. or_left _ _ (before i lt);
    behind = λ i le lt. or_left _ _ (behind i le lt);
  },
  apart_items fields span items ordered within (λ i lt. or_right _ _ (before i lt))
      (λ i le lt. or_right _ _ (behind i le lt)),
)

-- what holds of each item holds of one of them
pub at_item : (P : Item Kind → Type 0) (items : List (CodeItem CodeKind)) (i : ℕ)
    → (item : CodeItem CodeKind) → item ≡ get_or items i item → i < length items
    → AllByRecursion P (map (item_of kind_of) items) → P (item_of kind_of item)
at_item P [] i item at lt all = absurd (omega (arith, lt))
at_item P (one ∷ items) zero item at lt all = rw at all.0
at_item P (one ∷ items) (suc i) item at lt all =
    at_item P items i item at (omega (arith, lt)) all.1
