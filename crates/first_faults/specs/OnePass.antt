-- Inside: what a pass over the rows of a table has shown and marked.
use Rattle.std.specs.Prelude.{◌≡◌, ◌<◌, ℕ, Bool, true, false, List, length, slice_index_or}
use Rattle.std.specs.List.{AllByRecursion, list_all, flat_map}
use Rattle.field_groups.specs.Field.{Field}
use Rattle.message_tables.specs.Tables.{Row, Item, Table, rows_of}
use Rattle.message_tables.specs.Plain.{IsLoose, ItemFits, fits, member_fits, with_places}
use Rattle.row_values.specs.Kinds.{Kind, judge}

-- rows fit, and the places of their fields are marked
pub record Fit (fields : List Field) (rows : List (Row Kind)) (old new : List Bool) : Type 0 where
  pub all : list_all (fits judge fields) rows ≡ true
  pub places : new ≡ with_places fields rows old

-- the same of the rows of a group
pub record MembersFit (fields : List Field) (rows : List (Row Kind)) (old new : List Bool) : Type 0
  where
    pub all : list_all (member_fits judge fields) rows ≡ true
    pub places : new ≡ with_places fields rows old

-- an item fits, and the places of the fields of its rows are marked
pub record ItemFit (fields : List Field) (item : Item Kind) (old new : List Bool) : Type 0 where
  pub fits : ItemFits judge fields item
  pub places : new ≡ with_places fields (rows_of item) old

-- the same of items
pub record ItemsFit
    (fields : List Field) (items : List (Item Kind)) (old new : List Bool) : Type 0 where
  pub all : AllByRecursion (ItemFits judge fields) items
  pub places : new ≡ with_places fields (flat_map rows_of items) old

-- a field whose place is marked, or that is good without a mark
pub data IsGoodPlace (table : Table Kind) (fields : List Field) (rowed : List Bool) (place : ℕ)
    : Type 0 where
  IsMarked : slice_index_or rowed place false ≡ true → IsGoodPlace table fields rowed place
  Stands : IsLoose judge fields table place → IsGoodPlace table fields rowed place

abbrev pub AreGoodPlaces : Table Kind → List Field → List Bool → Type 0
AreGoodPlaces table fields rowed =
    (place : ℕ) → place < length fields → IsGoodPlace table fields rowed place
