-- Inside: fields that one pass over the rows of their table shows to be at no fault.
use Rattle.std.specs.Prelude.{◌≡◌, ℕ, ◌==◌, ◌<◌, ◌≤◌, ◌&&◌, Bool, true, false, not, List, [], ◌∷◌}
use Rattle.std.specs.Prelude.{Some, None, length, position, slice_index_or, slice_set}
use Rattle.std.specs.declared.option.Option.{Option}
use Rattle.std.specs.List.{list_all}
use Rattle.message_tables.specs.declared.table_fault.Mark.{Mark}
use Rattle.message_tables.specs.declared.table_fault.Mark.TheVariants as marks
use Rattle.field_groups.specs.Field.{Field}
use Rattle.message_tables.specs.Tables.{Row, RepeatingGroup, GroupTags, Item, One, Party, Lines}
use Rattle.message_tables.specs.Tables.{Table, Judge, value_at, has_tag, is_needed, tags_in}
use Rattle.message_tables.specs.FirstFault.{Placed, allowed, mark_of, marked, misplaced, missing_of}
use Rattle.message_tables.specs.FirstFault.{is_of_group, missing, once_in, place_in, twice}

abbrev pub is_good : Mark → Bool
is_good marks.Good = true
is_good mark = false

-- no field has this tag
abbrev pub lacks : List Field → ℕ → Bool
lacks fields tag = not (has_tag tag fields)

-- no field is of this group
abbrev pub lacks_group : List Field → GroupTags → Bool
lacks_group fields group =
    lacks fields group.count
    && (list_all (lacks fields) group.members && list_all (lacks fields) group.skipped)

-- the field at a place, with those before and behind it
abbrev pub placed_at : List Field → ℕ → Placed
placed_at fields place = place_in fields place (slice_index_or fields place (0, []))

-- no field of a group stands before one place, or from another one on
pub record IsApart (fields : List Field) (group : GroupTags) (from to : ℕ) : Type 0 where
  pub ordered : from ≤ to
  pub within : to ≤ length fields
  pub before : (place : ℕ) → place < from
      → is_of_group (slice_index_or fields place (0, [])).0 group ≡ false
  pub behind : (place : ℕ) → to ≤ place → place < length fields
      → is_of_group (slice_index_or fields place (0, [])).0 group ≡ false

-- a group of which no field stands at a wrong place, and each line says what it has to
pub record IsWhole {Kind : Type 0} (fields : List Field) (group : RepeatingGroup Kind) : Type 0
  where
    pub placed : (place : ℕ) → place < length fields
        → misplaced (placed_at fields place) (tags_in group) ≡ None
    pub said : missing_of fields (Lines group) ≡ None

-- a row that says what it has to, or a whole group
abbrev pub IsSaidItem : {Kind : Type 0} → List Field → Item Kind → Type 0
IsSaidItem fields (One row) = missing fields row ≡ None
IsSaidItem fields (Party role) = Unit {0}
IsSaidItem fields (Lines group) = IsWhole fields group

module _ {Kind : Type 0} (judge : Judge Kind) (fields : List Field) where
  abbrev pub fits_at : Row Kind → Option (List ℕ) → Bool
  fits_at row None = not (is_needed row.need fields)
  fits_at row (Some value) =
      is_good (allowed row.need (mark_of (judge fields row.kind value)))

  -- a row whose field has a good value, or that has no field and needs none
  abbrev pub fits : Row Kind → Bool
  fits row = fits_at row (value_at row.tag fields)

  -- a row of a group: the first field of its tag, if there is one, has a good value
  abbrev pub member_fits_at : Row Kind → Option (List ℕ) → Bool
  member_fits_at row None = true
  member_fits_at row (Some value) = fits_at row (Some value)

  abbrev pub member_fits : Row Kind → Bool
  member_fits row = member_fits_at row (value_at row.tag fields)

  -- a row that fits, or a whole group whose rows fit
  abbrev pub ItemFits : Item Kind → Type 0
  ItemFits (One row) = fits row ≡ true
  ItemFits (Party role) = Unit {0}
  ItemFits (Lines group) = IsWhole fields group × (list_all member_fits group.rows ≡ true)

  -- a field that is good where it is not the first one of a row
  pub record IsLoose (table : Table Kind) (place : ℕ) : Type 0 where
    pub once : twice (once_in table) (placed_at fields place) ≡ None
    pub good : (marked judge table fields (slice_index_or fields place (0, []))).1 ≡ marks.Good

-- places, with one more that is marked
abbrev pub with_place : List Bool → Option ℕ → List Bool
with_place places None = places
with_place places (Some place) = slice_set places place true

-- places, with those of the first fields of rows marked
abbrev pub with_places : {Kind : Type 0} → List Field → List (Row Kind) → List Bool → List Bool
with_places fields [] places = places
with_places fields (row ∷ rows) places =
    with_places fields rows (with_place places (position (λ f. f.0 == row.tag) fields))
