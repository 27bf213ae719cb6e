-- Inside: a table of the code whose rows are found by their tags, and what a pass by it shows.
use Rattle.std.specs.Prelude.{◌≡◌, ◌==◌, ◌<◌, ◌≤◌, ◌+◌, ◌%◌, ◌||◌, ℕ, Bool, true, false}
use Rattle.std.specs.Prelude.{not, List, [], ◌∷◌, ◌++◌, length, map, Some, None, slice_index_or}
use Rattle.std.specs.Prelude.{if◌then◌else◌}
use Rattle.std.specs.Int.{bit_at}
use Rattle.std.specs.Borrow.{Bor}
use Rattle.std.specs.List.{flat_map, list_all, list_any}
use Rattle.std.specs.declared.option.Option.{Option}
use Rattle.field_groups.specs.Field.{Field}
use Rattle.message_tables.specs.declared.table.Row.{Row as CodeRow}
use Rattle.message_tables.specs.declared.table.Item.{Item as CodeItem}
use Rattle.message_tables.specs.declared.table.Table.{Table as CodeTable}
use Rattle.message_tables.specs.Tables.{Item, Need, One, Party, Lines, Required, Row, Table, When}
use Rattle.message_tables.specs.Tables.{all_rows, has_tag, is_needed, is_one_of, row_at, tags_in}
use Rattle.message_tables.specs.FirstFault.{group_tags_in, is_of_group, is_passed, once_in}
use Rattle.message_tables.specs.CodeTables.{item_of, row_of, table_of}
use Rattle.message_tables.specs.Plain.{IsApart, IsLoose, IsWhole}
use Rattle.row_values.specs.declared.kinds.Kind.{Kind as CodeKind}
use Rattle.row_values.specs.CodeKinds.{kind_of}
use Rattle.row_values.specs.Kinds.{Kind, judge}
use Rattle.first_faults.specs.declared.indexed.TagRow.{TagRow}
use Rattle.first_faults.specs.declared.indexed.TagRow.TheVariants.{Absent, Own, Member, Passed}
use Rattle.first_faults.specs.declared.indexed.TagRows.{TagRows}
use Rattle.first_faults.specs.declared.indexed.Needs.{Needs}
use Rattle.first_faults.specs.declared.indexed.Span.{Span}

-- ---- rows by their tags

-- a table of the code with the kinds of the code
abbrev pub own : CodeTable CodeKind → Table CodeKind
own table = table_of (λ (k : CodeKind). k) table

-- the first row of a tag
abbrev pub IsFirstRow : CodeTable CodeKind → ℕ → CodeRow CodeKind → Type 0
IsFirstRow table tag row =
    Some (row_of (λ (k : CodeKind). k) row) ≡ row_at tag (all_rows (own table))

-- a tag that is in no group
abbrev pub IsAlone : {Kind : Type 0} → Table Kind → ℕ → Type 0
IsAlone table tag = list_any (is_of_group tag) (group_tags_in table) ≡ false

-- what is found of a tag: nothing; the first row, with how the tag may stand; or that it has no row
-- and is passed over
abbrev pub IsRowOf : CodeTable CodeKind → ℕ → TagRow → Type 0
IsRowOf table tag Absent = Unit {0}
IsRowOf table tag (Own row) = IsFirstRow table tag row.now × IsAlone (own table) tag
IsRowOf table tag (Member row) =
    IsFirstRow table tag row.now × (is_one_of (once_in (own table)) tag ≡ false)
IsRowOf table tag (Passed one) =
    (None ≡ row_at tag (all_rows (own table))) × (is_passed (own table) tag ≡ true)

-- the same of the row's own tag
abbrev pub IsTagRow : CodeTable CodeKind → TagRow → Type 0
IsTagRow table Absent = Unit {0}
IsTagRow table (Own row) = IsRowOf table row.now.tag (Own row)
IsTagRow table (Member row) = IsRowOf table row.now.tag (Member row)
IsTagRow table (Passed tag) = IsRowOf table tag (Passed tag)

abbrev pub AreTagRows : CodeTable CodeKind → List TagRow → Type 0
AreTagRows table rows = (place : ℕ) → IsTagRow table (slice_index_or rows place Absent)

-- the row, where it is that of a tag
abbrev pub of_tag : ℕ → TagRow → TagRow
of_tag tag Absent = Absent
of_tag tag (Own row) = if row.now.tag == tag then Own row else Absent
of_tag tag (Member row) = if row.now.tag == tag then Member row else Absent
of_tag tag (Passed one) = if one == tag then Passed one else Absent

-- the row of a tag, where it is in no group
abbrev pub own_row : ℕ → TagRow → Option (Bor (CodeRow CodeKind))
own_row tag (Own row) = if row.now.tag == tag then Some row else None
own_row tag row = None

abbrev pub tag_of : TagRow → ℕ
tag_of Absent = 0
tag_of (Own row) = row.now.tag
tag_of (Member row) = row.now.tag
tag_of (Passed tag) = tag

-- ---- the rows at the front, each of which has a bit

-- bits with that of a place set
pub record IsWithBit (old place new : ℕ) : Type 0 where
  pub set : bit_at new place ≡ 1
  pub kept : (other : ℕ) → bit_at old other ≡ 1 → bit_at new other ≡ 1
  pub only : (other : ℕ) → (other == place) ≡ false → bit_at new other ≡ bit_at old other

-- the place at which the row of a tag stands, if it stands at the front
abbrev pub front_place : TagRows → ℕ → ℕ
front_place rows tag = slice_index_or rows.places (tag % 512) 0 % 64

abbrev pub front_row : TagRows → ℕ → Option (Bor (CodeRow CodeKind))
front_row rows tag = own_row tag (slice_index_or rows.rows (front_place rows tag) Absent)

-- a place at the front at which the row of a tag stands
pub record IsPlaceOf (rows : TagRows) (tag place : ℕ) : Type 0 where
  pub within : place < 64
  pub there : tag_of (slice_index_or rows.rows place Absent) ≡ tag

-- bits of the rows that have a field: a row without its bit has none
pub record HaveCome (rows : TagRows) (fields : List Field) (come : ℕ) : Type 0 where
  pub marked : (tag : ℕ) (row : Bor (CodeRow CodeKind)) → Some row ≡ front_row rows tag
      → has_tag tag fields ≡ true → bit_at come (front_place rows tag) ≡ 1
  pub said : (place : ℕ) → bit_at come place ≡ 1
      → has_tag (tag_of (slice_index_or rows.rows place Absent)) fields ≡ true

-- ---- rows that a message may have to say

abbrev pub may_be_needed : Need → Bool
may_be_needed Required = true
may_be_needed (When condition) = true
may_be_needed need = false

abbrev pub needed_of : Item Kind → List (Row Kind)
needed_of (One row) = if may_be_needed row.need then row ∷ [] else []
needed_of (Party role) = []
needed_of (Lines group) = []

abbrev pub row_in : Option (Bor (CodeRow CodeKind)) → List (Row Kind)
row_in None = []
row_in (Some row) = row_of kind_of row.now ∷ []

-- a row that has a field, or needs none
abbrev pub is_said : List Field → Row Kind → Bool
is_said fields row = has_tag row.tag fields || not (is_needed row.need fields)

abbrev pub AreSaid : List Field → List (Item Kind) → Type 0
AreSaid fields items = list_all (is_said fields) (flat_map needed_of items) ≡ true

-- rows whose fields tell that each row of items is said: each at the front whose bit is set has a
-- field, and each of the others is said
abbrev pub AreNeeded : List (CodeItem CodeKind) → TagRows → Needs → Type 0
AreNeeded items rows needs = (fields : List Field)
    → ((place : ℕ) → bit_at needs.required place ≡ 1
    → has_tag (tag_of (slice_index_or rows.rows place Absent)) fields ≡ true)
    → list_all (is_said fields) (flat_map row_in needs.others.items) ≡ true
    → AreSaid fields (map (item_of kind_of) items)

-- one more row, at a place at the front or among the others
abbrev pub IsOneMore : Needs → Needs → Option ℕ → CodeRow CodeKind → Type 0
IsOneMore old new (Some place) row =
    IsWithBit old.required place new.required × (new.others.items ≡ old.others.items)
IsOneMore old new None row = (new.required ≡ old.required)
    × (flat_map row_in new.others.items
    ≡ flat_map row_in old.others.items ++ row_of kind_of row ∷ [])

-- ---- the pass

-- an item that is no group, or a whole one
abbrev pub IsWholeItem : List Field → Item Kind → Type 0
IsWholeItem fields (One row) = Unit {0}
IsWholeItem fields (Party role) = Unit {0}
IsWholeItem fields (Lines group) = IsWhole fields group

-- a good field, and whether it is known to be in no group
pub record IsGoodField (table : Table Kind) (fields : List Field) (place : ℕ) (apart : Bool)
    : Type 0 where
  pub loose : IsLoose judge fields table place
  pub alone : apart ≡ true → IsAlone table (slice_index_or fields place (0, [])).0

-- a span of places, with one more behind it
abbrev pub with_place : Span → ℕ → Bool → Span
with_place span place true = span
with_place span place false =
    record { from = if span.to == 0 then place else span.from; to = place + 1 }

-- the same of the fields before a place, of which those outside of a span are in no group
pub record AreGoodFields (table : Table Kind) (fields : List Field) (count : ℕ) (span : Span)
    : Type 0 where
  pub ordered : span.from ≤ span.to
  pub within : span.to ≤ count
  pub loose : (place : ℕ) → place < count → IsLoose judge fields table place
  pub before : (place : ℕ) → place < span.from
      → IsAlone table (slice_index_or fields place (0, [])).0
  pub behind : (place : ℕ) → span.to ≤ place → place < count
      → IsAlone table (slice_index_or fields place (0, [])).0

-- so many fields at the front are good
pub record AreGoodTo (table : Table Kind) (fields : List Field) (count : ℕ) : Type 0 where
  pub within : count ≤ length fields
  pub loose : (place : ℕ) → place < count → IsLoose judge fields table place

-- an item that is no group, or one of which no field stands outside of a span
abbrev pub IsApartItem : List Field → Span → Item Kind → Type 0
IsApartItem fields span (One row) = Unit {0}
IsApartItem fields span (Party role) = Unit {0}
IsApartItem fields span (Lines group) = IsApart fields (tags_in group) span.from span.to
