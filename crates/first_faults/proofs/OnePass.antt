-- One pass over the rows of a table of the code.
use Rattle.std.proofs.Common.{◌≡◌, ℕ, zero, suc, ◌+◌, ◌<◌, ◌≤◌, Bool, true, false, List, [], ◌∷◌}
use Rattle.std.proofs.Common.{◌++◌, length, get_or, take, map, replicate, refl, sym, ap, ◌∙◌, arith}
use Rattle.std.proofs.lemmas.List.{append-nil}
use Rattle.std.proofs.lemmas.List.{take_more, map-append}
use Rattle.std.proofs.lemmas.Bool.Decides.{nat_tests}
use Rattle.std.specs.Prelude.{◌&&◌, ◌==◌, None, Some, position}
use Rattle.std.specs.List.{AllByRecursion, list_all, flat_map, slice_get}
use Rattle.std.proofs.lemmas.Option.{get_or_from_slice_get}
use Rattle.std.proofs.lemmas.List.Folds.{list_all-append}
use Rattle.std.proofs.lemmas.Grind.{flat_map-append}
use Rattle.field_groups.specs.Field.{Field}
use Rattle.message_tables.specs.declared.table.Row.{Row as CodeRow}
use Rattle.message_tables.specs.declared.table.Item.{Item as CodeItem}
use Rattle.message_tables.specs.declared.table.Table.{Table as CodeTable}
use Rattle.message_tables.specs.declared.table_fault.Mark.{Mark}
use Rattle.message_tables.specs.declared.table_fault.Mark.TheVariants as marks
use Rattle.message_tables.specs.Tables.{Row, Item, Table, all_rows, has_tag, is_one_of, rows_in}
use Rattle.message_tables.specs.Tables.{Need, Required, Optional, Lenient, Fixed, When}
use Rattle.message_tables.specs.Tables.{row_at, rows_of}
use Rattle.message_tables.specs.FirstFault.{Marked, allowed, first_fault, is_passed, marked}
use Rattle.message_tables.specs.FirstFault.{once_in, without_row}
use Rattle.message_tables.specs.CodeTables.{row_of, item_of, table_of}
use Rattle.message_tables.specs.Plain.{IsLoose, ItemFits, fits, fits_at, is_good, member_fits}
use Rattle.message_tables.specs.Plain.{with_places}
use Rattle.message_tables.proofs.OnePass.{IsGoodAt, Loose, Rowed, each_marked, first_is_once}
use Rattle.message_tables.proofs.OnePass.{good_mark, once_if}
use Rattle.message_tables.proofs.OnePass.{plain_is_clean, row_of_place, with_places-append}
use Rattle.message_tables.proofs.Mapped.{once_mapped}
use Rattle.row_values.specs.declared.kinds.Kind.{Kind as CodeKind}
use Rattle.row_values.specs.Kinds.{Kind, judge}
use Rattle.row_values.specs.CodeKinds.{kind_of}
use Rattle.first_faults.specs.OnePass.{AreGoodPlaces, Fit, IsGoodPlace, IsMarked, ItemFit, ItemsFit}
use Rattle.first_faults.specs.OnePass.{MembersFit, Stands}
use Rattle.first_faults.proofs.FirstFaults.{with_none, with_row}

-- ---- a loop over rows, and one over items

-- one more of those of which something holds
pub one_more : {A : Type 0} (P : A → Type 0) (xs : List A) (x : A) → AllByRecursion P xs → P x
    → AllByRecursion P (xs ++ x ∷ [])
one_more P [] x all last = (last, tt)
one_more P (y ∷ xs) x all last = (all.0, one_more P xs x all.1 last)

module _ (fields : List Field) (old mid new : List Bool) where
  more_row : (rows : List (Row Kind)) (row : Row Kind) → Fit fields rows old mid
      → fits judge fields row ≡ true
      → new ≡ with_places fields (row ∷ []) mid → Fit fields (rows ++ row ∷ []) old new
  more_row rows row so_far fit e = record {
    all = list_all-append (fits judge fields) rows (row ∷ []) ∙ rw (so_far.all, fit) refl;
    places = e ∙ ap (with_places fields (row ∷ [])) so_far.places
        ∙ sym (with_places-append fields rows (row ∷ []) old);
  }

  more_member : (rows : List (Row Kind)) (row : Row Kind) → MembersFit fields rows old mid
      → member_fits judge fields row ≡ true
      → new ≡ with_places fields (row ∷ []) mid → MembersFit fields (rows ++ row ∷ []) old new
  more_member rows row so_far fit e = record {
    all = list_all-append (member_fits judge fields) rows (row ∷ []) ∙ rw (so_far.all, fit) refl;
    places = e ∙ ap (with_places fields (row ∷ [])) so_far.places
        ∙ sym (with_places-append fields rows (row ∷ []) old);
  }

  more_item : (items : List (Item Kind)) (item : Item Kind) → ItemsFit fields items old mid
      → ItemFit fields item mid new → ItemsFit fields (items ++ item ∷ []) old new
  more_item items item so_far fit = record {
    all = one_more (ItemFits judge fields) items item so_far.all fit.fits;
    places = fit.places ∙ ap (with_places fields (rows_of item)) so_far.places
        ∙ sym (with_places-append fields (flat_map rows_of items) (rows_of item) old)
        ∙ ap (λ (rows : List (Row Kind)). with_places fields rows old)
        (ap (λ (last : List (Row Kind)). flat_map rows_of items ++ last)
        (sym (append-nil (rows_of item)))
        ∙ sym (flat_map-append rows_of items (item ∷ [])));
  }

  pub next_row : (rows : List (CodeRow CodeKind)) (i : ℕ) (row : CodeRow CodeKind)
      → row ≡ get_or rows i row → i < length rows
      → Fit fields (map (row_of kind_of) (take i rows)) old mid
      → fits judge fields (row_of kind_of row) ≡ true
      → new ≡ with_places fields (row_of kind_of row ∷ []) mid
      → Fit fields (map (row_of kind_of) (take (i + 1) rows)) old new
  next_row rows i row at lt so_far fit e =
      let more : map (row_of kind_of) (take (i + 1) rows)
      ≡ map (row_of kind_of) (take i rows) ++ row_of kind_of row ∷ [] =
      ap (map (row_of kind_of)) (take_more rows i row lt
      ∙ ap (λ (r : CodeRow CodeKind). take i rows ++ r ∷ []) (sym at))
      ∙ map-append (row_of kind_of) (take i rows) (row ∷ []) in
      rw more (more_row (map (row_of kind_of) (take i rows)) (row_of kind_of row) so_far fit e)

  pub next_member : (rows : List (CodeRow CodeKind)) (i : ℕ) (row : CodeRow CodeKind)
      → row ≡ get_or rows i row → i < length rows
      → MembersFit fields (map (row_of kind_of) (take i rows)) old mid
      → member_fits judge fields (row_of kind_of row) ≡ true
      → new ≡ with_places fields (row_of kind_of row ∷ []) mid
      → MembersFit fields (map (row_of kind_of) (take (i + 1) rows)) old new
  next_member rows i row at lt so_far fit e =
      let more : map (row_of kind_of) (take (i + 1) rows)
      ≡ map (row_of kind_of) (take i rows) ++ row_of kind_of row ∷ [] =
      ap (map (row_of kind_of)) (take_more rows i row lt
      ∙ ap (λ (r : CodeRow CodeKind). take i rows ++ r ∷ []) (sym at))
      ∙ map-append (row_of kind_of) (take i rows) (row ∷ []) in
      rw more (more_member (map (row_of kind_of) (take i rows)) (row_of kind_of row) so_far fit e)

  pub next_item : (items : List (CodeItem CodeKind)) (i : ℕ) (item : CodeItem CodeKind)
      → item ≡ get_or items i item → i < length items
      → ItemsFit fields (map (item_of kind_of) (take i items)) old mid
      → ItemFit fields (item_of kind_of item) mid new
      → ItemsFit fields (map (item_of kind_of) (take (i + 1) items)) old new
  next_item items i item at lt so_far fit =
      let more : map (item_of kind_of) (take (i + 1) items)
      ≡ map (item_of kind_of) (take i items) ++ item_of kind_of item ∷ [] =
      ap (map (item_of kind_of)) (take_more items i item lt
      ∙ ap (λ (x : CodeItem CodeKind). take i items ++ x ∷ []) (sym at))
      ∙ map-append (item_of kind_of) (take i items) (item ∷ []) in
      rw more (more_item (map (item_of kind_of) (take i items)) (item_of kind_of item) so_far fit)

-- ---- the whole pass

-- no place is marked at first
unmarked : (n place : ℕ) → get_or (replicate n false) place false ≡ false
unmarked zero place = refl
unmarked (suc n) zero = refl
unmarked (suc n) (suc place) = unmarked n place

-- places of which each is marked
pub all_marked : (table : Table Kind) (fields : List Field) (rowed : List Bool)
    → length rowed ≡ 256 → length fields ≤ 256
    → list_all (λ one. one) (take (length fields) rowed) ≡ true → AreGoodPlaces table fields rowed
all_marked table fields rowed whole few marked = λ place lt.
    IsMarked (each_marked rowed (length fields) marked (rw whole few) place lt)

-- one more place that is good
pub good_more : (table : Table Kind) (fields : List Field) (rowed : List Bool) (i : ℕ)
    → ((place : ℕ) → place < i → IsGoodPlace table fields rowed place)
    → IsGoodPlace table fields rowed i
    → (place : ℕ) → place < i + 1 → IsGoodPlace table fields rowed place
good_more table fields rowed i so_far good place lt = by (place == i) refl
  where
    by : (b : Bool) → (place == i) ≡ b → IsGoodPlace table fields rowed place
    by true e = let same : place ≡ i = grind (arith, nat_tests, e) in rw same good
    by false e = so_far place (grind (arith, nat_tests, lt, e))

pub at_no_fault : (table : Table Kind) (fields : List Field) (mid new : List Bool)
    → Fit fields table.header (replicate 256 false) mid → ItemsFit fields table.items mid new
    → AreGoodPlaces table fields new → first_fault judge table fields ≡ None
at_no_fault table fields mid new header items good =
    sym (plain_is_clean judge table fields (record {
      header = header.all;
      items = items.all;
      placed = λ place lt. at place lt (good place lt);
    }))
  where
    places : new ≡ with_places fields (all_rows table) (replicate 256 false)
    places = items.places ∙ ap (with_places fields (rows_in table)) header.places
        ∙ sym (with_places-append fields table.header (rows_in table) (replicate 256 false))

    at : (place : ℕ) → place < length fields → IsGoodPlace table fields new place
        → IsGoodAt judge table fields place
    at place lt (Stands loose) = Loose loose
    at place lt (IsMarked marked) = Rowed (row_of_place fields (all_rows table)
        (replicate 256 false) place (unmarked 256 place)
        (ap (λ (p : List Bool). get_or p place false) (sym places) ∙ marked))

-- a field that stands once, or may stand again, and has a good mark
pub loose : (table : Table Kind) (fields : List Field) (place : ℕ) (f : Field) (mark : Mark)
    → Some f ≡ slice_get fields place
    → (is_one_of (once_in table) f.0 && has_tag f.0 (take place fields)) ≡ false
    → (f.0, mark) ≡ marked judge table fields f → mark ≡ marks.Good
    → IsLoose judge fields table place
loose table fields place f mark at once is good = record {
  once = once_if (once_in table) fields place f at once;
  good = ap (λ (x : Field). (marked judge table fields x).1)
      (get_or_from_slice_get fields place f (0, []) (sym at))
      ∙ sym (ap (λ (x : Marked). x.1) is) ∙ good;
}

-- fields that are good without a mark, by how their tags may stand in the table of the code
module _ (table : CodeTable CodeKind) (fields : List Field) (place tag : ℕ) (value : List ℕ)
    (at : Some (tag, value) ≡ slice_get fields place) where
  abbrev own : Table CodeKind
  own = table_of (λ (k : CodeKind). k) table

  abbrev Holds : Type 0
  Holds = IsLoose judge fields (table_of kind_of table) place

  module _ (many : is_one_of (once_in own) tag ≡ false) where
    behind : (is_one_of (once_in (table_of kind_of table)) tag && has_tag tag (take place fields))
        ≡ false
    behind = ap (λ (tags : List ℕ). is_one_of tags tag && has_tag tag (take place fields))
        (once_mapped kind_of table)
        ∙ ap (λ (b : Bool). b && has_tag tag (take place fields)) many

    pub member_loose : (row : CodeRow CodeKind)
        → Some (row_of (λ (k : CodeKind). k) row) ≡ row_at tag (all_rows own)
        → fits_at judge fields (row_of kind_of row) (Some value) ≡ true → Holds
    member_loose row is fit =
        loose (table_of kind_of table) fields place (tag, value) _ at behind
        (with_row table fields tag value (row_of (λ (k : CodeKind). k) row) is) (good_mark _ fit)

    pub stranger_loose : None ≡ row_at tag (all_rows own)
        → is_good (without_row (is_passed own tag) value) ≡ true → Holds
    stranger_loose none fit =
        loose (table_of kind_of table) fields place (tag, value) _ at behind
        (with_none table fields tag value none) (good_mark _ fit)

  pub once_loose : Some place ≡ position (λ (f : Field). f.0 == tag) fields → (mark : Mark)
      → (tag, mark) ≡ marked judge (table_of kind_of table) fields (tag, value)
      → is_good mark ≡ true → Holds
  once_loose first mark is fit =
      loose (table_of kind_of table) fields place (tag, value) mark at
      (first_is_once (once_in (table_of kind_of table)) fields tag place first) is
      (good_mark mark fit)

-- a good value is good beside any need
pub good_is_allowed : (need : Need) → is_good (allowed need marks.Good) ≡ true
good_is_allowed Required = refl
good_is_allowed Optional = refl
good_is_allowed Lenient = refl
good_is_allowed (Fixed text) = refl
good_is_allowed (When condition) = refl
