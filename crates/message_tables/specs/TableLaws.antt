-- Own: the laws of a table. Fields are a message exactly where they have no first fault, and else
-- exactly that fault; and a message says each row that it needs.
use Rattle.std.specs.Prelude.{◌≡◌, ◌↔◌, ℕ, List, Some, None, Ok, Err, true, IsSome}
use Rattle.std.specs.List.{slice_get}
use Rattle.field_groups.specs.Field.{Field}
use Rattle.message_tables.specs.declared.table_fault.TableFault.{TableFault}
use Rattle.message_tables.specs.declared.table_fault.Mark.TheVariants.{Outside}
use Rattle.message_tables.specs.Tables.{Judge, Need, Row, One, Table, ◌>>=◌, value_at, text_of}
use Rattle.message_tables.specs.Tables.{is_needed, row_at, all_rows}
use Rattle.message_tables.specs.FirstFault.{allowed, first_fault, message_in, message_of}

pub record ReadsAs {Kind : Type 0}
    (judge : Judge Kind) (table : Table Kind) (fields : List Field) : Type 0 where
  pub good : (first_fault judge table fields ≡ None)
      ↔ (message_of judge table fields ≡ Ok (message_in judge table fields))
  pub bad : (fault : TableFault)
      → (first_fault judge table fields ≡ Some fault) ↔ (message_of judge table fields ≡ Err fault)

-- FIELDS ARE A MESSAGE, or they have a first fault
abbrev pub FieldsAreRead : Type 0 → Type 0
FieldsAreRead Kind = (judge : Judge Kind) (table : Table Kind) (fields : List Field)
    → ReadsAs judge table fields

-- a value outside the profile is a fault of a row with this need
abbrev pub IsStrict : Need → Type 0
IsStrict need = allowed need Outside ≡ Outside

-- A NEEDED ROW IS SAID by fields at no fault, where its tag has no other row.
abbrev pub NeededRowsAreSaid : Type 0 → Type 0
NeededRowsAreSaid Kind = (judge : Judge Kind) (table : Table Kind) (fields : List Field)
    (place : ℕ) (row : Row Kind)
    → first_fault judge table fields ≡ None → slice_get table.items place ≡ Some (One row)
    → row_at row.tag (all_rows table) ≡ Some row
    → is_needed row.need fields ≡ true → IsStrict row.need
    → IsSome (value_at row.tag fields >>= (λ bytes. text_of (judge fields row.kind bytes)))
