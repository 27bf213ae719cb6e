-- Fields that one pass over the rows of their table shows to be at no fault have none.
use Rattle.std.proofs.Common.{◌≡◌, ◌≢◌, ℕ, zero, suc, ◌+◌, ◌<◌, ◌≤◌, Bool, true, false, cond}
use Rattle.std.proofs.Common.{eqb}
use Rattle.std.proofs.Common.{List, [], ◌∷◌, ◌++◌, length, get_or, take, map, Option, Some}
use Rattle.std.proofs.Common.{None, refl, sym, ap, ◌∙◌, arith, one-add}
use Rattle.std.specs.Prelude.{position, nat_lt, not, ◌==◌, ◌&&◌, ◌||◌, reverse}
use Rattle.std.specs.Option.{option_map, option_or}
use Rattle.std.specs.List.{AllByRecursion, list_any, list_all, flat_map, position_or_len}
use Rattle.std.specs.List.{slice_get}
use Rattle.std.proofs.Math.ListN.{set}
use Rattle.std.proofs.lemmas.List.{get_or-set_other}
use Rattle.std.proofs.lemmas.List.Folds.{find-append}
use Rattle.std.proofs.lemmas.Option.{get_or_from_slice_get, slice_get-get_or}
use Rattle.std.proofs.lemmas.Bool.Decides.{nat_tests}
use Rattle.message_tables.specs.declared.table_fault.TableFault.{TableFault}
use Rattle.message_tables.specs.declared.table_fault.TableFault.TheVariants as faults
use Rattle.message_tables.specs.declared.table_fault.Mark.{Mark}
use Rattle.message_tables.specs.declared.table_fault.Mark.TheVariants as marks
use Rattle.field_groups.specs.Field.{Field}
use Rattle.message_tables.specs.Tables.{Row, RepeatingGroup, GroupTags, Item, One, Party, Lines}
use Rattle.message_tables.specs.Tables.{Table, Judge}
use Rattle.message_tables.specs.Tables.{first_of, value_at, has_tag, is_one_of, is_needed}
use Rattle.message_tables.specs.Tables.{row_at, rows_of, rows_in, all_rows, tags_in}
use Rattle.message_tables.specs.FirstFault.{twice, once_in, placed_from, group_tags_in}
use Rattle.message_tables.specs.FirstFault.{group_tags_of, in_groups, misplaced, wrong_version}
use Rattle.message_tables.specs.FirstFault.{wrong, beyond, Marked, marked, missing_of, missing}
use Rattle.message_tables.specs.FirstFault.{fault_if, by_row, is_passed, first_fault}
use Rattle.message_tables.specs.FirstFault.{Placed, place_in}
use Rattle.message_tables.specs.Plain.{IsLoose, IsWhole, ItemFits, fits, fits_at, is_good, lacks}
use Rattle.message_tables.specs.Plain.{lacks_group, member_fits, member_fits_at, placed_at}
use Rattle.message_tables.specs.Plain.{IsSaidItem, with_place, with_places}
use Rattle.message_tables.proofs.ByPlace.{no_lines, value_by_place}
use Rattle.message_tables.proofs.Placed.{none, at, rest_at, passed, ended, has_tag-reverse}
use Rattle.message_tables.proofs.Clean.{value_at-none}

-- ---- the first place of a tag

abbrev pub has : ℕ → Field → Bool
has tag f = f.0 == tag

position-cons : (tag : ℕ) (f : Field) (fs : List Field)
    → position (has tag) (f ∷ fs)
    ≡ cond {A = Option ℕ} (f.0 == tag) (Some 0) (option_map suc (position (has tag) fs))
position-cons tag f fs = here (f.0 == tag)
  where
    later : (n : ℕ) (inner outer : Bool) → nat_lt n (length fs) ≡ inner
        → nat_lt (suc n) (suc (length fs)) ≡ outer
        → cond outer (Some (suc n)) None ≡ option_map suc (cond inner (Some n) None)
    later n true true i o = refl
    later n true false i o = absurd (grind (arith, nat_tests))
    later n false true i o = absurd (grind (arith, nat_tests))
    later n false false i o = refl

    at_once : (outer : Bool) → nat_lt 0 (suc (length fs)) ≡ outer
        → cond {A = Option ℕ} outer (Some 0) None ≡ Some 0
    at_once true o = refl
    at_once false o = absurd (grind (arith, nat_tests))

    here : (b : Bool) → cond (nat_lt (cond (not b) (1 + position_or_len (has tag) fs) 0)
        (length (f ∷ fs))) (Some (cond (not b) (1 + position_or_len (has tag) fs) 0)) None
        ≡ cond {A = Option ℕ} b (Some 0) (option_map suc (position (has tag) fs))
    here true = at_once _ refl
    here false = rw one-add (later (position_or_len (has tag) fs) _ _ refl refl)

-- the first field of a tag, at a place
pub record IsFirst (tag : ℕ) (fs : List Field) (place : ℕ) : Type 0 where
  pub within : place < length fs
  pub same : (get_or fs place none).0 ≡ tag
  pub before : has_tag tag (take place fs) ≡ false
  pub value : value_at tag fs ≡ Some (get_or fs place none).1
  pub there : has_tag tag fs ≡ true

pub is_first : (tag : ℕ) (fs : List Field) (place : ℕ)
    → position (has tag) fs ≡ Some place → IsFirst tag fs place
is_first tag [] place e = absurd cc
is_first tag (f ∷ fs) place e =
    here (f.0 == tag) refl place (sym (position-cons tag f fs) ∙ e) (is_first tag fs)
  where
    Later : Type 0
    Later = (n : ℕ) → position (has tag) fs ≡ Some n → IsFirst tag fs n

    later : (n : ℕ) → eqb f.0 tag ≡ false → IsFirst tag fs n → IsFirst tag (f ∷ fs) (suc n)
    later n other first = record {
      within = omega (arith, first.within);
      same = first.same;
      before = rw (other, first.before) refl;
      value = rw other first.value;
      there = rw (other, first.there) refl;
    }

    next : (o : Option ℕ) → position (has tag) fs ≡ o → eqb f.0 tag ≡ false
        → (n : ℕ) → option_map suc o ≡ Some n → Later → IsFirst tag (f ∷ fs) n
    next None p other n s first = absurd cc
    next (Some m) p other n s first =
        let same : suc m ≡ n = cc in rw (← same) (later m other (first m p))

    here : (b : Bool) → eqb f.0 tag ≡ b → (n : ℕ)
        → cond {A = Option ℕ} b (Some 0) (option_map suc (position (has tag) fs)) ≡ Some n
        → Later → IsFirst tag (f ∷ fs) n
    here true same n s first =
        let zero_is : 0 ≡ n = cc in let is : f.0 ≡ tag = grind (arith, nat_tests) in
        rw (← zero_is) (record {
          within = omega arith;
          same = is;
          before = refl;
          value = rw same refl;
          there = rw same refl;
        })
    here false other n s first = next (position (has tag) fs) refl other n s first

-- a tag that has no place is not that of a field
no_place_lacks : (tag : ℕ) (fs : List Field)
    → position (has tag) fs ≡ None → has_tag tag fs ≡ false
no_place_lacks tag [] e = refl
no_place_lacks tag (f ∷ fs) e =
    here (f.0 == tag) (sym (position-cons tag f fs) ∙ e) (no_place_lacks tag fs)
  where
    none_more : (o : Option ℕ) → option_map suc o ≡ None → o ≡ None
    none_more None e = refl
    none_more (Some n) e = absurd cc

    here : (b : Bool)
        → cond {A = Option ℕ} b (Some 0) (option_map suc (position (has tag) fs)) ≡ None
        → (position (has tag) fs ≡ None → has_tag tag fs ≡ false)
        → (b || has_tag tag fs) ≡ false
    here true e later = absurd cc
    here false e later = later (none_more (position (has tag) fs) e)

pub lacks_none : (tag : ℕ) (fs : List Field)
    → None ≡ position (has tag) fs → true ≡ lacks fs tag
lacks_none tag fs e = rw (no_place_lacks tag fs (sym e)) refl

pub lacks_some : (tag : ℕ) (fs : List Field) (place : ℕ)
    → Some place ≡ position (has tag) fs → false ≡ lacks fs tag
lacks_some tag fs place e = rw (is_first tag fs place (sym e)).there refl

-- whether a first place stands before another one
abbrev pub is_before : Option ℕ → ℕ → Bool
is_before None place = false
is_before (Some first) place = nat_lt first place

pub stands_before : (tag : ℕ) (fs : List Field) (place : ℕ)
    → is_before (position (has tag) fs) place ≡ has_tag tag (take place fs)
stands_before tag fs zero = nowhere (position (has tag) fs)
  where
    nowhere : (o : Option ℕ) → is_before o 0 ≡ false
    nowhere None = refl
    nowhere (Some first) = by (nat_lt first 0) refl
      where
        by : (b : Bool) → nat_lt first 0 ≡ b → b ≡ false
        by false e = refl
        by true e = absurd (grind (arith, nat_tests))
stands_before tag [] (suc place) = refl
stands_before tag (f ∷ fs) (suc place) =
    ap (λ (o : Option ℕ). is_before o (suc place)) (position-cons tag f fs)
    ∙ here (f.0 == tag) (stands_before tag fs place)
  where
    next : (o : Option ℕ) → is_before (option_map suc o) (suc place) ≡ is_before o place
    next None = refl
    next (Some first) = by (nat_lt first place) (nat_lt (suc first) (suc place)) refl refl
      where
        by : (a b : Bool) → nat_lt first place ≡ a → nat_lt (suc first) (suc place) ≡ b → b ≡ a
        by true true i o = refl
        by true false i o = absurd (grind (arith, nat_tests))
        by false true i o = absurd (grind (arith, nat_tests))
        by false false i o = refl

    at_once : (b : Bool) → nat_lt 0 (suc place) ≡ b → b ≡ true
    at_once true e = refl
    at_once false e = absurd (grind (arith, nat_tests))

    here : (b : Bool) → is_before (position (has tag) fs) place ≡ has_tag tag (take place fs)
        → is_before (cond {A = Option ℕ} b (Some 0) (option_map suc (position (has tag) fs)))
        (suc place) ≡ (b || has_tag tag (take place fs))
    here true e = at_once _ refl
    here false e = next (position (has tag) fs) ∙ e

-- ---- marked places

module _ {Kind : Type 0} (fields : List Field) where
  -- a row whose first field stands at a place
  pub record RowAt (rows : List (Row Kind)) (place : ℕ) : Type 0 where
    pub tag : ℕ
    pub there : list_any (λ (row : Row Kind). row.tag == tag) rows ≡ true
    pub first : position (has tag) fields ≡ Some place

  further : (row : Row Kind) (rows : List (Row Kind)) (place : ℕ)
      → RowAt rows place → RowAt (row ∷ rows) place
  further row rows place r = record {
    tag = r.tag;
    there = or_true (eqb row.tag r.tag) r.there;
    first = r.first;
  }
    where
      or_true : (b : Bool) {c : Bool} → c ≡ true → (b || c) ≡ true
      or_true true e = refl
      or_true false e = e

  -- a place that is marked, and was not, is that of the first field of a row
  pub row_of_place : (rows : List (Row Kind)) (places : List Bool) (place : ℕ)
      → get_or places place false ≡ false
      → get_or (with_places fields rows places) place false ≡ true → RowAt rows place
  row_of_place [] places place was is = absurd cc
  row_of_place (row ∷ rows) places place was is =
      by (position (has row.tag) fields) refl is (λ more. row_of_place rows more place)
    where
      Later : Type 0
      Later = (more : List Bool) → get_or more place false ≡ false
          → get_or (with_places fields rows more) place false ≡ true → RowAt rows place

      self : (tag : ℕ) (rest : Bool) → (eqb tag tag || rest) ≡ true
      self tag rest = is_true (eqb tag tag) refl
        where
          is_true : (b : Bool) → eqb tag tag ≡ b → (b || rest) ≡ true
          is_true true e = refl
          is_true false e = absurd (grind (arith, nat_tests))

      at_other : (other : ℕ) → position (has row.tag) fields ≡ Some other
          → get_or (with_places fields rows (set places other true)) place false ≡ true
          → Later → (b : Bool) → eqb other place ≡ b → RowAt (row ∷ rows) place
      at_other other p is later true e =
          let here : other ≡ place = grind (arith, nat_tests) in
          record { tag = row.tag; there = self row.tag _; first = p ∙ ap Some here }
      at_other other p is later false e =
          let apart : place ≢ other = λ same. absurd (grind (arith, nat_tests)) in
          further row rows place (later (set places other true)
          (get_or-set_other places other place true false apart ∙ was) is)

      by : (o : Option ℕ) → position (has row.tag) fields ≡ o
          → get_or (with_places fields rows (with_place places o)) place false ≡ true
          → Later → RowAt (row ∷ rows) place
      by None p is later = further row rows place (later places was is)
      by (Some other) p is later = at_other other p is later (eqb other place) refl

-- ---- rows that fit

and_left : (a b : Bool) → (a && b) ≡ true → a ≡ true
and_left true b h = refl
and_left false b h = h

and_right : (a b : Bool) → (a && b) ≡ true → b ≡ true
and_right true b h = h
and_right false b h = absurd cc

-- a tag that no field has is not that of a field
lacks_listed : (fields : List Field) (tags : List ℕ) (tag : ℕ) → list_all (lacks fields) tags ≡ true
    → has_tag tag fields ≡ true → is_one_of tags tag ≡ false
lacks_listed fields [] tag h there = refl
lacks_listed fields (one ∷ tags) tag h there =
    by (eqb one tag) refl (lacks_listed fields tags tag (and_right _ _ h) there)
  where
    by : (b : Bool) → eqb one tag ≡ b → is_one_of tags tag ≡ false
        → (b || is_one_of tags tag) ≡ false
    by false e rest = rest
    by true e rest =
        let same : one ≡ tag = grind (arith, nat_tests) in
        let absent : not (has_tag one fields) ≡ true = and_left _ _ h in
        absurd (let no : not (has_tag tag fields) ≡ true = rw (← same) absent in
        let yes : not true ≡ true = rw there at no in cc)

-- a tag of a field at a place is that of a field
tag_there : (fields : List Field) (i : ℕ) → i < length fields
    → has_tag (get_or fields i none).0 fields ≡ true
tag_there [] i lt = absurd (omega (arith, lt))
tag_there (f ∷ fs) zero lt = here (eqb f.0 f.0) refl
  where
    here : (b : Bool) → eqb f.0 f.0 ≡ b → (b || has_tag f.0 fs) ≡ true
    here true e = refl
    here false e = absurd (grind (arith, nat_tests))
tag_there (f ∷ fs) (suc i) lt =
    here (eqb f.0 (get_or fs i none).0) (tag_there fs i (omega (arith, lt)))
  where
    here : (b : Bool) {c : Bool} → c ≡ true → (b || c) ≡ true
    here true e = refl
    here false e = e

-- a row of a tag passes what all rows pass
row_passes : {Kind : Type 0} (test : Row Kind → Bool) (tag : ℕ) (rows : List (Row Kind))
    (row : Row Kind) → list_all test rows ≡ true → row_at tag rows ≡ Some row → test row ≡ true
row_passes test tag [] row h e = absurd cc
row_passes test tag (one ∷ rows) row h e =
    by (one.tag == tag) (row_passes test tag rows row (and_right _ _ h)) e
  where
    by : (b : Bool) → (row_at tag rows ≡ Some row → test row ≡ true)
        → cond b (Some one) (row_at tag rows) ≡ Some row → test row ≡ true
    by true later e = let same : one ≡ row = cc in rw (← same) (and_left _ _ h)
    by false later e = later e

module _ {Kind : Type 0} (judge : Judge Kind) (fields : List Field) where
  -- the first value of a row's tag, if there is one, is good
  abbrev IsGoodRow : Row Kind → Type 0
  IsGoodRow row = (value : List ℕ) → value_at row.tag fields ≡ Some value
      → fits_at judge fields row (Some value) ≡ true

  good_row : (row : Row Kind) → fits judge fields row ≡ true → IsGoodRow row
  good_row row h value e = rw e at h

  good_member : (row : Row Kind) → member_fits judge fields row ≡ true → IsGoodRow row
  good_member row h value e = rw e at h

  row_fits : (tag : ℕ) (rows : List (Row Kind)) (row : Row Kind)
      → list_all (fits judge fields) rows ≡ true → row_at tag rows ≡ Some row → IsGoodRow row
  row_fits tag rows row h e = good_row row (row_passes (fits judge fields) tag rows row h e)

  -- a row of an item
  item_row_fits : (tag : ℕ) (item : Item Kind) (row : Row Kind) → ItemFits judge fields item
      → row_at tag (rows_of item) ≡ Some row → IsGoodRow row
  item_row_fits tag (One one) row h e = row_fits tag (one ∷ []) row (rw h refl) e
  item_row_fits tag (Party role) row h e = absurd cc
  item_row_fits tag (Lines group) row h e =
      good_member row (row_passes (member_fits judge fields) tag group.rows row h.1 e)

  items_row_fits : (tag : ℕ) (items : List (Item Kind)) (row : Row Kind)
      → AllByRecursion (ItemFits judge fields) items
      → row_at tag (flat_map rows_of items) ≡ Some row → IsGoodRow row
  items_row_fits tag [] row h e = absurd cc
  items_row_fits tag (item ∷ items) row h e =
      by (row_at tag (rows_of item)) refl (items_row_fits tag items row h.1)
      (sym (find-append (λ (r : Row Kind). r.tag == tag) (rows_of item) (flat_map rows_of items))
      ∙ e)
    where
      by : (o : Option (Row Kind)) → row_at tag (rows_of item) ≡ o
          → (row_at tag (flat_map rows_of items) ≡ Some row → IsGoodRow row)
          → option_or o (row_at tag (flat_map rows_of items)) ≡ Some row → IsGoodRow row
      by None n later e = later e
      by (Some one) n later e =
          let same : one ≡ row = cc in item_row_fits tag item row h.0 (n ∙ ap Some same)

-- ---- the stages

-- a tag that no field has has no place
pub no_place : (tag : ℕ) (fields : List Field)
    → lacks fields tag ≡ true → None ≡ position (has tag) fields
no_place tag fields h = by (position (has tag) fields) refl
  where
    by : (o : Option ℕ) → position (has tag) fields ≡ o → None ≡ o
    by None e = refl
    by (Some place) e = absurd (let no : not true ≡ true =
        rw (is_first tag fields place e).there at h in cc)

pub placed_none : {A : Type 0} (judge : Placed → Option A) (fs : List Field)
    → ((i : ℕ) → i < length fs → judge (at fs i) ≡ None)
    → first_of judge (placed_from [] fs) ≡ None
placed_none judge fs each = from (length fs) 0 (omega arith)
  where
    from : (n i : ℕ) → n + i ≡ length fs → first_of judge (rest_at fs i) ≡ None
    from zero i e = sym (ended judge fs i _ (omega (arith, e)) refl)
    from (suc n) i e =
        let lt : i < length fs = omega (arith, e) in
        sym (passed judge fs i _ lt (each i lt) refl) ∙ from n (i + 1) (omega (arith, e))

marks_none : (f : Marked → Option TableFault) → ((tag : ℕ) → f (tag, marks.Good) ≡ None)
    → (g : Field → Marked) (xs : List Field)
    → ((i : ℕ) → i < length xs → (g (get_or xs i none)).1 ≡ marks.Good)
    → first_of f (map g xs) ≡ None
unfolding first_of
marks_none f good g [] each = refl
marks_none f good g (x ∷ xs) each =
    let here : f (g x) ≡ None =
    ap (λ (m : Mark). f ((g x).0, m)) (each 0 (omega arith)) ∙ good (g x).0 in
    rw here (marks_none f good g xs (λ i lt. each (suc i) (omega (arith, lt))))

pub good_mark : (mark : Mark) → is_good mark ≡ true → mark ≡ marks.Good
good_mark marks.Good h = refl
good_mark marks.Outside h = absurd cc
good_mark (marks.Wrong reason) h = absurd cc

pub record RowOf {Kind : Type 0} (tag : ℕ) (rows : List (Row Kind)) : Type 0 where
  pub row : Row Kind
  pub is : row_at tag rows ≡ Some row
  pub same : row.tag ≡ tag

row_there : {Kind : Type 0} (tag : ℕ) (rows : List (Row Kind))
    → list_any (λ (row : Row Kind). row.tag == tag) rows ≡ true → RowOf tag rows
row_there tag [] h = absurd cc
row_there {Kind} tag (one ∷ rows) h = by (one.tag == tag) refl h (row_there tag rows)
  where
    by : (b : Bool) → eqb one.tag tag ≡ b
        → (b || list_any (λ (row : Row Kind). row.tag == tag) rows) ≡ true
        → (list_any (λ (row : Row Kind). row.tag == tag) rows ≡ true → RowOf tag rows)
        → RowOf tag (one ∷ rows)
    by true e h later =
        record { row = one; is = rw e refl; same = grind (arith, nat_tests) }
    by false e h later =
        let found = later h in record { row = found.row; is = rw e found.is; same = found.same }

and_false : (a : Bool) (fault : TableFault) → fault_if (a && false) fault ≡ None
and_false true fault = refl
and_false false fault = refl

-- ---- a group of which no field stands

module _ {Kind : Type 0} (fields : List Field) (group : RepeatingGroup Kind)
    (h : lacks_group fields (tags_in group) ≡ true) where
  misplaced_none : (p : Placed) → has_tag p.field.0 fields ≡ true
      → misplaced p (tags_in group) ≡ None
  misplaced_none p there =
      let no_member =
      lacks_listed fields (tags_in group).members p.field.0 (and_left _ _ (and_right _ _ h)) there
      in
      let no_skipped =
      lacks_listed fields (tags_in group).skipped p.field.0 (and_right _ _ (and_right _ _ h)) there
      in
      rw (no_count (eqb p.field.0 group.count) refl, no_member, no_skipped) refl
    where
      no_count : (b : Bool) → eqb p.field.0 group.count ≡ b → eqb p.field.0 group.count ≡ false
      no_count false e = e
      no_count true e =
          let same : p.field.0 ≡ group.count = grind (arith, nat_tests) in
          let absent : not (has_tag group.count fields) ≡ true = and_left _ _ h in
          absurd (let no : not (has_tag p.field.0 fields) ≡ true = rw same absent in
          let yes : not true ≡ true = rw there at no in cc)

  pub absent_is_whole : IsWhole fields group
  unfolding first_of
  absent_is_whole = record {
    placed = λ place lt. misplaced_none (placed_at fields place) (tag_there fields place lt);
    said = rw (← no_lines (tags_in group) fields (no_place group.count fields (and_left _ _ h)))
        refl;
  }

  members_absent : (judge : Judge Kind) (rows : List (Row Kind))
      → list_all (lacks fields) (map (λ (r : Row Kind). r.tag) rows) ≡ true
      → list_all (member_fits judge fields) rows ≡ true
  members_absent judge [] h = refl
  members_absent judge (row ∷ rows) h =
      let here : member_fits judge fields row ≡ true =
      absent (has_tag row.tag fields) refl (and_left _ _ h) in
      let later : list_all (member_fits judge fields) rows ≡ true =
      members_absent judge rows (and_right _ _ h) in
      rw (here, later) refl
    where
      absent : (b : Bool) → has_tag row.tag fields ≡ b → not b ≡ true
          → member_fits judge fields row ≡ true
      absent true e lacking = absurd cc
      absent false e lacking =
          ap (member_fits_at judge fields row) (value_at-none row.tag fields e)

  pub absent_fits : (judge : Judge Kind) → ItemFits judge fields (Lines group)
  absent_fits judge =
      (absent_is_whole, members_absent judge group.rows (and_left _ _ (and_right _ _ h)))

module _ {Kind : Type 0} (judge : Judge Kind) (table : Table Kind) (fields : List Field) where
  -- a field is the first one of a row, or good by itself
  pub data IsGoodAt (place : ℕ) : Type 0 where
    Rowed : RowAt fields (all_rows table) place → IsGoodAt place
    Loose : IsLoose judge fields table place → IsGoodAt place

  -- what one pass over the rows shows
  pub record IsPlain : Type 0 where
    pub header : list_all (fits judge fields) table.header ≡ true
    pub items : AllByRecursion (ItemFits judge fields) table.items
    pub placed : (place : ℕ) → place < length fields → IsGoodAt place

  module _ (plain : IsPlain) where
    good_by_row : (tag : ℕ) (row : Row Kind) → row_at tag (all_rows table) ≡ Some row
        → IsGoodRow judge fields row
    good_by_row tag row e =
        by (row_at tag table.header) refl
        (sym (find-append (λ (r : Row Kind). r.tag == tag) table.header (rows_in table)) ∙ e)
      where
        by : (o : Option (Row Kind)) → row_at tag table.header ≡ o
            → option_or o (row_at tag (rows_in table)) ≡ Some row → IsGoodRow judge fields row
        by None n e = items_row_fits judge fields tag table.items row plain.items e
        by (Some one) n e =
            row_fits judge fields tag table.header row plain.header
            (n ∙ (let same : one ≡ row = cc in ap Some same))

    rowed_mark : (i : ℕ) → RowAt fields (all_rows table) i
        → (marked judge table fields (get_or fields i none)).1 ≡ marks.Good
    rowed_mark i r = good
      where
        first : IsFirst r.tag fields i
        first = is_first r.tag fields i r.first

        found : RowOf r.tag (all_rows table)
        found = row_there r.tag (all_rows table) r.there

        fit : fits_at judge fields found.row (Some (get_or fields i none).1) ≡ true
        fit = good_by_row r.tag found.row found.is (get_or fields i none).1
            (ap (λ (tag : ℕ). value_at tag fields) found.same ∙ first.value)

        is : row_at (get_or fields i none).0 (all_rows table) ≡ Some found.row
        is = ap (λ (tag : ℕ). row_at tag (all_rows table)) first.same ∙ found.is

        good : (marked judge table fields (get_or fields i none)).1 ≡ marks.Good
        good = ap (by_row judge (is_passed table (get_or fields i none).0) fields
            (get_or fields i none).1) is ∙ good_mark _ fit

    mark_at : (i : ℕ) → i < length fields
        → (marked judge table fields (get_or fields i none)).1 ≡ marks.Good
    mark_at i lt = by (plain.placed i lt)
      where
        by : IsGoodAt i → (marked judge table fields (get_or fields i none)).1 ≡ marks.Good
        by (Rowed r) = rowed_mark i r
        by (Loose l) = l.good

    rowed_once : (i : ℕ) → RowAt fields (all_rows table) i
        → twice (once_in table) (at fields i) ≡ None
    rowed_once i r =
        let first = is_first r.tag fields i r.first in
        let before : has_tag (get_or fields i none).0 (reverse (take i fields)) ≡ false =
        has_tag-reverse (get_or fields i none).0 (take i fields)
        ∙ ap (λ (tag : ℕ). has_tag tag (take i fields)) first.same ∙ first.before in
        rw before (and_false _ _)

    twice_none : (i : ℕ) → i < length fields → twice (once_in table) (at fields i) ≡ None
    twice_none i lt = by (plain.placed i lt)
      where
        by : IsGoodAt i → twice (once_in table) (at fields i) ≡ None
        by (Rowed r) = rowed_once i r
        by (Loose l) = l.once

    missing_none : (row : Row Kind) → fits judge fields row ≡ true → missing fields row ≡ None
    missing_none row h = by (has_tag row.tag fields) refl
      where
        no : (needed : Bool) (fault : TableFault)
            → not needed ≡ true → fault_if (needed && true) fault ≡ None
        no true fault n = absurd cc
        no false fault n = refl

        by : (b : Bool) → has_tag row.tag fields ≡ b → missing fields row ≡ None
        by true e = rw e (and_false (is_needed row.need fields) (faults.Reason row.tag 1))
        by false e =
            let absent = value_at-none row.tag fields e in
            rw e (no (is_needed row.need fields) (faults.Reason row.tag 1) (rw absent at h))

    items_said : (items : List (Item Kind)) → AllByRecursion (ItemFits judge fields) items
        → AllByRecursion (IsSaidItem fields) items
    items_said [] h = tt
    items_said (One row ∷ items) h = (missing_none row h.0, items_said items h.1)
    items_said (Party role ∷ items) h = (tt, items_said items h.1)
    items_said (Lines group ∷ items) h = (h.0.0, items_said items h.1)

  -- fields of which each is good where it stands, whose groups are whole, and that lack no row
  pub record AreSound : Type 0 where
    pub loose : (place : ℕ) → place < length fields → IsLoose judge fields table place
    pub said : AllByRecursion (IsSaidItem fields) table.items

  groups_none : (i : ℕ) → i < length fields → (items : List (Item Kind))
      → AllByRecursion (IsSaidItem fields) items
      → first_of (misplaced (at fields i)) (flat_map group_tags_of items) ≡ None
  unfolding first_of
  groups_none i lt [] h = refl
  groups_none i lt (One row ∷ items) h = groups_none i lt items h.1
  groups_none i lt (Party role ∷ items) h = groups_none i lt items h.1
  groups_none i lt (Lines group ∷ items) h = rw (h.0.placed i lt) (groups_none i lt items h.1)

  items_none : (items : List (Item Kind)) → AllByRecursion (IsSaidItem fields) items
      → first_of (missing_of fields) items ≡ None
  unfolding first_of
  items_none [] h = refl
  items_none (One row ∷ items) h = rw h.0 (items_none items h.1)
  items_none (Party role ∷ items) h = items_none items h.1
  items_none (Lines group ∷ items) h = rw h.0.said (items_none items h.1)

  -- such fields are at no fault
  pub sound_is_clean : AreSound → None ≡ first_fault judge table fields
  unfolding first_fault
  sound_is_clean sound =
      let good = λ (i : ℕ) (lt : i < length fields). (sound.loose i lt).good in
      rw (
        placed_none (twice (once_in table)) fields (λ i lt. (sound.loose i lt).once),
        marks_none wrong_version (λ _. refl) (marked judge table fields) fields good,
        placed_none (in_groups (group_tags_in table)) fields
            (λ i lt. groups_none i lt table.items sound.said),
        marks_none wrong (λ _. refl) (marked judge table fields) fields good,
        items_none table.items sound.said,
        marks_none beyond (λ _. refl) (marked judge table fields) fields good,
      ) refl

  -- fields that one pass over the rows shows to be at no fault have none
  pub plain_is_clean : IsPlain → None ≡ first_fault judge table fields
  plain_is_clean plain = sound_is_clean (record {
    loose = λ i lt. record { once = twice_none plain i lt; good = mark_at plain i lt };
    said = items_said plain table.items plain.items;
  })

-- a field whose tag has not stood before, or may stand again, does not stand twice
pub once_if : (once : List ℕ) (fields : List Field) (place : ℕ) (f : Field)
    → Some f ≡ slice_get fields place
    → (is_one_of once f.0 && has_tag f.0 (take place fields)) ≡ false
    → twice once (placed_at fields place) ≡ None
once_if once fields place f at h =
    let same : get_or fields place none ≡ f =
    get_or_from_slice_get fields place f none (sym at) in
    ap (λ (x : Field). twice once (place_in fields place x)) same
    ∙ ap (λ (b : Bool). fault_if (is_one_of once f.0 && b) (faults.Reason f.0 13))
    (has_tag-reverse f.0 (take place fields))
    ∙ rw h refl

-- ---- as the pass goes on

pub with_places-append : {Kind : Type 0} (fields : List Field) (xs ys : List (Row Kind))
    → (places : List Bool)
    → with_places fields (xs ++ ys) places ≡ with_places fields ys (with_places fields xs places)
with_places-append fields [] ys places = refl
with_places-append fields (x ∷ xs) ys places =
    with_places-append fields xs ys (with_place places (position (has x.tag) fields))

-- rows of tags that no field has mark no place
pub lacking_rows : {Kind : Type 0} (fields : List Field) (rows : List (Row Kind))
    → (places : List Bool) → list_all (lacks fields) (map (λ (r : Row Kind). r.tag) rows) ≡ true
    → with_places fields rows places ≡ places
lacking_rows fields [] places h = refl
lacking_rows fields (row ∷ rows) places h =
    rw (← no_place row.tag fields (and_left _ _ h))
    (lacking_rows fields rows places (and_right _ _ h))

pub lacking_group : (fields : List Field) (group : GroupTags) → lacks_group fields group ≡ true
    → list_all (lacks fields) group.members ≡ true
lacking_group fields group h = and_left _ _ (and_right _ _ h)

pub fits_of_none : {Kind : Type 0} (judge : Judge Kind) (fields : List Field) (row : Row Kind)
    → None ≡ position (has row.tag) fields
    → not (is_needed row.need fields) ≡ fits judge fields row
fits_of_none judge fields row e =
    ap (fits_at judge fields row) (value_by_place row.tag fields None None e refl)

pub fits_of_some : {Kind : Type 0} (judge : Judge Kind) (fields : List Field) (row : Row Kind)
    → (place : ℕ) (f : Field) → Some place ≡ position (has row.tag) fields
    → Some f ≡ slice_get fields place
    → fits_at judge fields row (Some f.1) ≡ fits judge fields row
fits_of_some judge fields row place f e at =
    ap (fits_at judge fields row) (value_by_place row.tag fields (Some place) (Some f) e at)

-- the same of a row of a group
pub member_of_none : {Kind : Type 0} (judge : Judge Kind) (fields : List Field) (row : Row Kind)
    → None ≡ position (has row.tag) fields → true ≡ member_fits judge fields row
member_of_none judge fields row e =
    ap (member_fits_at judge fields row) (value_by_place row.tag fields None None e refl)

pub member_of_some : {Kind : Type 0} (judge : Judge Kind) (fields : List Field) (row : Row Kind)
    → (place : ℕ) (f : Field) → Some place ≡ position (has row.tag) fields
    → Some f ≡ slice_get fields place
    → fits_at judge fields row (Some f.1) ≡ member_fits judge fields row
member_of_some judge fields row place f e at =
    ap (member_fits_at judge fields row)
    (value_by_place row.tag fields (Some place) (Some f) e at)

-- a tag whose first field stands here, or that may stand again
pub first_is_once : (once : List ℕ) (fields : List Field) (tag place : ℕ)
    → Some place ≡ position (has tag) fields
    → (is_one_of once tag && has_tag tag (take place fields)) ≡ false
first_is_once once fields tag place e =
    rw (is_first tag fields place (sym e)).before (and_no (is_one_of once tag))
  where
    and_no : (b : Bool) → (b && false) ≡ false
    and_no true = refl
    and_no false = refl

-- the first field of a tag is there
pub not_past : (fields : List Field) (tag place : ℕ) → Some place ≡ position (has tag) fields
    → None ≡ slice_get fields place → ⊥
not_past fields tag place e past =
    let first = is_first tag fields place (sym e) in
    let got : slice_get fields place ≡ Some (get_or fields place none) =
    slice_get-get_or fields place none first.within in
    absurd (let no : None ≡ Some (get_or fields place none) = past ∙ got in cc)

-- each of the first places of a list is marked
pub each_marked : (places : List Bool) (n : ℕ) → list_all (λ one. one) (take n places) ≡ true
    → n ≤ length places → (i : ℕ) → i < n → get_or places i false ≡ true
each_marked [] n h le i lt = absurd (omega (arith, le, lt))
each_marked (one ∷ places) zero h le i lt = absurd (omega (arith, lt))
each_marked (one ∷ places) (suc n) h le zero lt = and_left _ _ h
each_marked (one ∷ places) (suc n) h le (suc i) lt =
    each_marked places n (and_right _ _ h) (omega (arith, le)) i (omega (arith, lt))
