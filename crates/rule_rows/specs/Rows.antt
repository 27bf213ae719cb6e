-- Own: what fields say by a row of a table, and the lines that they say by a group of it.
use Rattle.std.specs.Prelude.{ℕ, Bool, true, false, ◌==◌, List, [], ◌∷◌, Option, Some, None}
use Rattle.std.specs.Prelude.{IsTrue, if◌then◌else◌}
use Rattle.std.specs.List.{AllByRecursion, flat_map, list_all}
use Rattle.field_groups.specs.Field.{Field}
use Rattle.message_tables.specs.CodeTables.{row_of}
use Rattle.message_tables.specs.declared.table.Row.{Row as CodeRow}
use Rattle.message_tables.specs.Tables.{Cell, Need, Fixed, Row, Item, One, Party, Lines}
use Rattle.message_tables.specs.Tables.{RepeatingGroup, cell_of, group_says}
use Rattle.message_tables.specs.Content.{cell_fields}
use Rattle.row_values.specs.CodeKinds.{kind_of}
use Rattle.row_values.specs.Kinds.{Kind, Value, judge}
use Rattle.row_values.specs.declared.kinds.Kind.{Kind as CodeKind}
use Rattle.value_kinds.specs.ValueKind.{ValueKind, DayOfMonth, MonthYear}

-- what fields write by a row
abbrev pub row_fields : List Field → Row Kind → List Field
row_fields fields row = cell_fields (cell_of judge fields row)

-- what always is said by a row, whatever stands there
abbrev pub fixed_text : Need → Option (List ℕ)
fixed_text (Fixed text) = Some text
fixed_text need = None

-- ---- groups

-- the group of a count
abbrev pub group_at : ℕ → List (Item Kind) → Option (RepeatingGroup Kind)
group_at count [] = None
group_at count (One row ∷ items) = group_at count items
group_at count (Party role ∷ items) = group_at count items
group_at count (Lines group ∷ items) =
    if group.count == count then Some group else group_at count items

-- the lines that fields say by a group, where a table has it
abbrev pub lines_said : List Field → Option (RepeatingGroup Kind) → List (List Cell)
lines_said fields None = []
lines_said fields (Some group) = (group_says judge fields group).1

-- ---- rows of the code whose values are written by themselves

abbrev pub is_written : ValueKind → Bool
is_written MonthYear = false
is_written DayOfMonth = false
is_written kind = true

abbrev pub is_kind_written : Kind → Bool
is_kind_written (Value kind) = is_written kind
is_kind_written kind = false

abbrev pub IsWritten : CodeRow CodeKind → Type 0
IsWritten row = IsTrue (is_kind_written (kind_of row.kind))

abbrev pub AreWritten : List (CodeRow CodeKind) → Type 0
AreWritten rows = AllByRecursion IsWritten rows

-- whether all rows of the groups of these items are such
abbrev pub has_written_lines : Item Kind → Bool
has_written_lines (Lines group) = list_all (λ row. is_kind_written row.kind) group.rows
has_written_lines item = true

abbrev pub have_written_lines : List (Item Kind) → Bool
have_written_lines some = list_all has_written_lines some

-- what a line writes by rows of the code
abbrev pub line_by : List (CodeRow CodeKind) → List Field → List Field
line_by rows line = flat_map (λ row. row_fields line (row_of kind_of row)) rows
