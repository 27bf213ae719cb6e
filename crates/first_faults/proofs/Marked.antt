-- The rows at the front, each of which has a bit that tells whether it has a field.
use Rattle.std.proofs.Common.{◌≡◌, ◌≢◌, ℕ, ◌+◌, ◌*◌, ◌%◌, ◌^◌, ◌/◌, ◌<◌, ◌≤◌, min, Bool, true, false}
use Rattle.std.proofs.Common.{cond, eqb, List, [], ◌∷◌, ◌++◌, length, get_or, take, map, Option, Some, None}
use Rattle.std.proofs.Common.{refl, sym, subst, ap, ◌∙◌, arith}
use Rattle.std.specs.Prelude.{◌&&◌, ◌||◌, ◌==◌}
use Rattle.std.specs.Borrow.{Bor}
use Rattle.std.specs.Int.{bit_at, w64}
use Rattle.std.specs.Int.RustNames.{bit_or}
use lib.Bits.{bit_and}
use Rattle.std.specs.List.{flat_map, list_all, slice_get}
use Rattle.std.proofs.lemmas.Bool.Decides.{nat_tests}
use Rattle.std.proofs.lemmas.Grind.{flat_map-append}
use Rattle.std.proofs.lemmas.List.{append-nil, map-append, take_all, take_more}
use Rattle.std.proofs.lemmas.List.Folds.{list_all-append, list_any-append}
use Rattle.std.proofs.lemmas.Nat.Bits.{bit_at-lt, bit_at-zero, bit_at_and, bit_at_set_other}
use Rattle.std.proofs.lemmas.Nat.Bits.{bit_at_set_same, shr_and_one}
use Rattle.field_groups.specs.Field.{Field}
use Rattle.message_tables.specs.declared.table.Row.{Row as CodeRow}
use Rattle.message_tables.specs.declared.table.Item.{Item as CodeItem}
use Rattle.message_tables.specs.declared.table.Table.{Table as CodeTable}
use Rattle.message_tables.specs.Tables.{Row, has_tag}
use Rattle.message_tables.specs.CodeTables.{item_of}
use Rattle.row_values.specs.declared.kinds.Kind.{Kind as CodeKind}
use Rattle.row_values.specs.CodeKinds.{kind_of}
use Rattle.row_values.specs.Kinds.{Kind}
use Rattle.first_faults.specs.declared.indexed.TagRow.{TagRow}
use Rattle.first_faults.specs.declared.indexed.TagRow.TheVariants.{Absent, Own, Member, Passed}
use Rattle.first_faults.specs.declared.indexed.TagRows.{TagRows}
use Rattle.first_faults.specs.declared.indexed.Needs.{Needs}
use Rattle.first_faults.specs.Indexed.{AreNeeded, AreSaid, HaveCome, IsOneMore, IsPlaceOf, IsRowOf}
use Rattle.first_faults.specs.Indexed.{IsTagRow, IsWithBit, front_place, front_row, is_said}
use Rattle.first_faults.specs.Indexed.{needed_of, own_row, row_in, tag_of}
use Rattle.first_faults.proofs.ByTags.{and_left, and_right}
use Rattle.first_faults.proofs.GoodFront.{taken}

-- ---- bits

pub set_bit : (bits place : ℕ) → place < 64
    → IsWithBit bits place (bit_or bits (1 * 2 ^ place % 2 ^ 64))
set_bit bits place lt = record {
  set = bit_at_set_same w64 bits place lt;
  kept = λ other before. by other (other == place) refl before;
  only = λ other apart. bit_at_set_other w64 bits place lt other (is_other other apart);
}
  where
    is_other : (other : ℕ) → eqb other place ≡ false → other ≢ place
    is_other other apart = λ same. grind (arith, nat_tests)

    by : (other : ℕ) (b : Bool) → eqb other place ≡ b → bit_at bits other ≡ 1
        → bit_at (bit_or bits (1 * 2 ^ place % 2 ^ 64)) other ≡ 1
    by other true e before =
        let same : other ≡ place = grind (arith, nat_tests) in
        rw same (bit_at_set_same w64 bits place lt)
    by other false e before =
        bit_at_set_other w64 bits place lt other (is_other other e) ∙ before

-- the test of a bit
pub is_unset : (bits place : ℕ) → (bit_and (bits / 2 ^ place) 1 == 0) ≡ true
    → bit_at bits place ≡ 0
is_unset bits place is =
    let e : bit_and (bits / 2 ^ place) 1 ≡ 0 = grind (arith, nat_tests) in
    sym (shr_and_one bits place) ∙ e

-- a bit of a number that another one has all bits of
both_set : (some all place : ℕ) → bit_and some all ≡ some → bit_at some place ≡ 1
    → bit_at all place ≡ 1
both_set some all place same is =
    let least : min (bit_at some place) (bit_at all place) ≡ bit_at some place =
    sym (bit_at_and some all place) ∙ ap (λ (n : ℕ). bit_at n place) same in
    omega (arith, least, is, bit_at-lt all place)

-- ---- the row of a tag

pub is_row_of : (table : CodeTable CodeKind) (tag : ℕ) (one : TagRow)
    → (row : Bor (CodeRow CodeKind)) → IsTagRow table one → Some row ≡ own_row tag one
    → IsRowOf table tag (Own row)
is_row_of table tag Absent row is e = absurd cc
is_row_of table tag (Member one) row is e = absurd cc
is_row_of table tag (Passed one) row is e = absurd cc
is_row_of table tag (Own one) row is e = by (one.now.tag == tag) refl e
  where
    by : (b : Bool) → eqb one.now.tag tag ≡ b → Some row ≡ cond b (Some one) None
        → IsRowOf table tag (Own row)
    by true same e =
        let t : one.now.tag ≡ tag = grind (arith, nat_tests) in
        let r : row ≡ one = cc in
        rw (r, ← t) is
    by false other e = absurd cc

pub has_its_tag : (tag : ℕ) (one : TagRow) (row : Bor (CodeRow CodeKind))
    → Some row ≡ own_row tag one → tag_of one ≡ tag
has_its_tag tag Absent row e = absurd cc
has_its_tag tag (Member one) row e = absurd cc
has_its_tag tag (Passed one) row e = absurd cc
has_its_tag tag (Own one) row e = by (one.now.tag == tag) refl e
  where
    by : (b : Bool) → eqb one.now.tag tag ≡ b → Some row ≡ cond b (Some one) None
        → one.now.tag ≡ tag
    by true same e = grind (arith, nat_tests)
    by false other e = absurd cc

-- ---- the rows that have a field

module _ (rows : TagRows) where
  abbrev tag_at : ℕ → ℕ
  tag_at place = tag_of (get_or rows.rows place Absent)

  pub none_come : HaveCome rows [] 0
  none_come = record {
    marked = λ tag row is there. absurd cc;
    said = λ place is. absurd (none place is);
  }
    where
      none : (place : ℕ) → bit_at 0 place ≡ 1 → ⊥
      none place is = let e : 0 ≡ 1 = sym (bit_at-zero place) ∙ is in omega (arith, e)

  pub not_come : (fields : List Field) (come tag : ℕ) (row : Bor (CodeRow CodeKind))
      → Some row ≡ front_row rows tag → bit_at come (front_place rows tag) ≡ 0
      → HaveCome rows fields come → has_tag tag fields ≡ false
  not_come fields come tag row is none have = by (has_tag tag fields) refl
    where
      by : (b : Bool) → has_tag tag fields ≡ b → b ≡ false
      by false e = refl
      by true e =
          let one : 0 ≡ 1 = sym none ∙ have.marked tag row is e in absurd (omega (arith, one))

  module _ (fields : List Field) (tag : ℕ) (value : List ℕ) where
    abbrev more : List Field
    more = fields ++ (tag, value) ∷ []

    has_more : (other : ℕ) → has_tag other more ≡ (has_tag other fields || (tag == other || false))
    has_more other = list_any-append (λ (f : Field). f.0 == other) fields ((tag, value) ∷ [])

    still : (other : ℕ) → has_tag other fields ≡ true → has_tag other more ≡ true
    still other e = has_more other ∙ rw e refl

    here : (other : ℕ) → other ≡ tag → has_tag other more ≡ true
    here other e = has_more other ∙ by (has_tag other fields) (tag == other) is
      where
        is : (tag == other) ≡ true
        is = grind (arith, nat_tests)

        by : (a b : Bool) → b ≡ true → (a || (b || false)) ≡ true
        by true b h = refl
        by false b h = rw h refl

    -- one more field, of a row at the front
    pub one_come : (come new : ℕ) (row : Bor (CodeRow CodeKind)) → Some row ≡ front_row rows tag
        → IsWithBit come (front_place rows tag) new → HaveCome rows fields come
        → HaveCome rows more new
    one_come come new row is bit have = record {
      marked = λ other own at there.
          by other own at (has_tag other fields) refl (tag == other) refl
          (sym (has_more other) ∙ there);
      said = λ place set. told place (place == front_place rows tag) refl set;
    }
      where
        by : (other : ℕ) (own : Bor (CodeRow CodeKind)) → Some own ≡ front_row rows other
            → (before : Bool) → has_tag other fields ≡ before
            → (now : Bool) → eqb tag other ≡ now → (before || (now || false)) ≡ true
            → bit_at new (front_place rows other) ≡ 1
        by other own at true e now h there =
            bit.kept (front_place rows other) (have.marked other own at e)
        by other own at false e true h there =
            let same : tag ≡ other = grind (arith, nat_tests) in
            ap (λ (t : ℕ). bit_at new (front_place rows t)) (sym same) ∙ bit.set
        by other own at false e false h there = absurd cc

        told : (place : ℕ) (b : Bool) → eqb place (front_place rows tag) ≡ b
            → bit_at new place ≡ 1 → has_tag (tag_at place) more ≡ true
        told place true e set =
            let same : place ≡ front_place rows tag = grind (arith, nat_tests) in
            here (tag_at place) (ap tag_at same
            ∙ has_its_tag tag (get_or rows.rows (front_place rows tag) Absent) row is)
        told place false e set =
            still (tag_at place) (have.said place (sym (bit.only place e) ∙ set))

    -- and one of no such row
    pub other_come : (come : ℕ) → None ≡ front_row rows tag → HaveCome rows fields come
        → HaveCome rows more come
    other_come come none have = record {
      marked = λ other own at there.
          by other own at (has_tag other fields) refl (tag == other) refl
          (sym (has_more other) ∙ there);
      said = λ place set. still (tag_at place) (have.said place set);
    }
      where
        by : (other : ℕ) (own : Bor (CodeRow CodeKind)) → Some own ≡ front_row rows other
            → (before : Bool) → has_tag other fields ≡ before
            → (now : Bool) → eqb tag other ≡ now → (before || (now || false)) ≡ true
            → bit_at come (front_place rows other) ≡ 1
        by other own at true e now h there = have.marked other own at e
        by other own at false e true h there =
            let same : tag ≡ other = grind (arith, nat_tests) in
            let no : Some own ≡ None = at ∙ ap (front_row rows) (sym same) ∙ sym none in absurd cc
        by other own at false e false h there = absurd cc

  -- the same of the fields before the next place
  pub come_before : (fields : List Field) (place : ℕ) (f : Field) (come : ℕ)
      → Some f ≡ slice_get fields place → HaveCome rows (take place fields ++ f ∷ []) come
      → HaveCome rows (take (place + 1) fields) come
  come_before fields place f come at have =
      subst (λ (fs : List Field). HaveCome rows fs come) (sym (taken fields place f at)) have

  pub all_come : (fields : List Field) (place come : ℕ) → length fields ≤ place
      → HaveCome rows (take place fields) come → HaveCome rows fields come
  all_come fields place come all have =
      subst (λ (fs : List Field). HaveCome rows fs come) (take_all place fields all) have

-- ---- rows that a message may have to say

-- what is said of one more item
more_items : (fields : List Field) (items : List (CodeItem CodeKind)) (i : ℕ)
    → (item : CodeItem CodeKind) (row : Option (Bor (CodeRow CodeKind)))
    → item ≡ get_or items i item → i < length items
    → row_in row ≡ needed_of (item_of kind_of item)
    → AreSaid fields (map (item_of kind_of) (take i items))
    → list_all (is_said fields) (row_in row) ≡ true
    → AreSaid fields (map (item_of kind_of) (take (i + 1) items))
more_items fields items i item row at lt is so_far said =
    let more : map (item_of kind_of) (take (i + 1) items)
    ≡ map (item_of kind_of) (take i items) ++ item_of kind_of item ∷ [] =
    ap (map (item_of kind_of)) (take_more items i item lt
    ∙ ap (λ (x : CodeItem CodeKind). take i items ++ x ∷ []) (sym at))
    ∙ map-append (item_of kind_of) (take i items) (item ∷ []) in
    let all : flat_map needed_of (map (item_of kind_of) (take (i + 1) items))
    ≡ flat_map needed_of (map (item_of kind_of) (take i items)) ++ row_in row =
    ap (flat_map needed_of) more
    ∙ flat_map-append needed_of (map (item_of kind_of) (take i items)) (item_of kind_of item ∷ [])
    ∙ ap (λ (rows : List (Row Kind)).
    flat_map needed_of (map (item_of kind_of) (take i items)) ++ rows)
    (append-nil (needed_of (item_of kind_of item)) ∙ sym is) in
    ap (list_all (is_said fields)) all
    ∙ list_all-append (is_said fields) (flat_map needed_of (map (item_of kind_of) (take i items)))
    (row_in row)
    ∙ rw (so_far, said) refl

pub no_needs : (rows : TagRows) (needs : Needs) → AreNeeded [] rows needs
no_needs rows needs = λ fields bits others. refl

pub no_more_needs : (rows : TagRows) (needs : Needs) (items : List (CodeItem CodeKind)) (i : ℕ)
    → (item : CodeItem CodeKind) → item ≡ get_or items i item → i < length items
    → row_in None ≡ needed_of (item_of kind_of item) → AreNeeded (take i items) rows needs
    → AreNeeded (take (i + 1) items) rows needs
no_more_needs rows needs items i item at lt is so_far = λ fields bits others.
    more_items fields items i item None at lt is (so_far fields bits others) refl

pub more_needs : (rows : TagRows) (old new : Needs) (items : List (CodeItem CodeKind)) (i : ℕ)
    → (item : CodeItem CodeKind) (row : Bor (CodeRow CodeKind)) (place : Option ℕ)
    → item ≡ get_or items i item → i < length items
    → row_in (Some row) ≡ needed_of (item_of kind_of item) → AreNeeded (take i items) rows old
    → IsOneMore old new place row.now
    → ((at : ℕ) → Some at ≡ place → IsPlaceOf rows row.now.tag at)
    → AreNeeded (take (i + 1) items) rows new
more_needs rows old new items i item row (Some place) at lt is so_far one there =
    λ fields bits others.
    let before : AreSaid fields (map (item_of kind_of) (take i items)) =
    so_far fields (λ p set. bits p (one.0.kept p set))
    (ap (λ (rs : List (Option (Bor (CodeRow CodeKind)))).
    list_all (is_said fields) (flat_map row_in rs)) (sym one.1) ∙ others) in
    let found : has_tag row.now.tag fields ≡ true =
    ap (λ (t : ℕ). has_tag t fields) (sym (there place refl).there) ∙ bits place one.0.set in
    more_items fields items i item (Some row) at lt is before (rw found refl)
more_needs rows old new items i item row None at lt is so_far one there = λ fields bits others.
    let both : (list_all (is_said fields) (flat_map row_in old.others.items)
    && list_all (is_said fields) (row_in (Some row))) ≡ true =
    sym (list_all-append (is_said fields) (flat_map row_in old.others.items) (row_in (Some row)))
    ∙ ap (list_all (is_said fields)) (sym one.1) ∙ others in
    more_items fields items i item (Some row) at lt is
    (so_far fields (λ p set. bits p (ap (λ (n : ℕ). bit_at n p) one.0 ∙ set))
    (and_left _ _ both)) (and_right _ _ both)

-- the rows that are needed are said
pub all_said : (fields : List Field) (come : ℕ) (needs : Needs)
    → bit_and needs.required come ≡ needs.required
    → list_all (is_said fields) (flat_map row_in needs.others.items) ≡ true
    → (rows : TagRows) → HaveCome rows fields come → (items : List (CodeItem CodeKind))
    → AreNeeded items rows needs → AreSaid fields (map (item_of kind_of) items)
all_said fields come needs all others rows have items needed =
    needed fields (λ place set. have.said place (both_set needs.required come place all set)) others
