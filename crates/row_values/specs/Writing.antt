-- Inside: the parts in which a content is written.
use Rattle.std.specs.Prelude.{ℕ, zero, suc, List, [], ◌∷◌, map, Some, IfSome, option_and_then}
use Rattle.std.specs.Option.{option_map}
use Rattle.std.specs.Fmt.{decimal}
use Rattle.typed_fields.specs.Dec.{dec_text, IsDec}
use Rattle.typed_fields.specs.Day.{day_text, IsDay}
use Rattle.typed_fields.specs.Stamp.{stamp_text, IsStamp}
use Rattle.typed_fields.specs.Flag.{flag_text}
use Rattle.typed_fields.specs.Number.{number_text, IsNumber}
use Rattle.field_groups.specs.Field.{Field}
use Rattle.message_tables.specs.Tables.{Tag, Said}
use Rattle.message_tables.specs.Content.{cell_fields, group_fields}
use Rattle.row_values.specs.declared.writing.Value.{Value}
use Rattle.row_values.specs.declared.writing.Value.TheVariants as values
use Rattle.row_values.specs.declared.writing.Part.{Part}
use Rattle.row_values.specs.declared.writing.Part.TheVariants as parts
use Rattle.value_kinds.specs.ValueKind.{code_text}
use Rattle.row_values.specs.Contras.{contra_cells, AreReadableContras}
use Rattle.row_values.specs.Lines.{month_text, month_day_text, date_text, party_cells}
use Rattle.row_values.specs.Lines.{alloc_cells, session_cells}
use Rattle.row_values.specs.Lines.{IsReadableMaturity, AreReadableParties, AreReadableAllocs}

-- what a row says
abbrev pub value_text : Value → Said
value_text (values.Text text) = Some text.now
value_text (values.TextIf text) = text.now
value_text (values.Code code) = Some (code_text code)
value_text (values.CodeIf code) = option_map code_text code
value_text (values.Dec dec) = Some (dec_text dec.now)
value_text (values.DecIf dec) = option_map dec_text dec.now
value_text (values.DayIf day) = option_map day_text day.now
value_text (values.Stamp stamp) = Some (stamp_text stamp.now)
value_text (values.StampIf stamp) = option_map stamp_text stamp.now
value_text (values.FlagIf flag) = option_map flag_text flag.now
value_text (values.Number number) = Some (number_text number)
value_text (values.NumberIf number) = option_map number_text number
value_text (values.Month maturity) = option_map month_text maturity.now
value_text (values.MonthDay maturity) = option_and_then month_day_text maturity.now
value_text (values.Date maturity) = option_and_then date_text maturity.now

-- a value that can be written
abbrev pub IsValue : Value → Type 0
IsValue (values.Dec dec) = IsDec dec.now
IsValue (values.DecIf dec) = IfSome dec.now IsDec
IsValue (values.DayIf day) = IfSome day.now IsDay
IsValue (values.Stamp stamp) = IsStamp stamp.now
IsValue (values.StampIf stamp) = IfSome stamp.now IsStamp
IsValue (values.Number number) = IsNumber number
IsValue (values.NumberIf number) = IfSome number IsNumber
IsValue (values.Month maturity) = IfSome maturity.now IsReadableMaturity
IsValue (values.Date maturity) = IfSome maturity.now IsReadableMaturity
IsValue value = Unit {0}

abbrev pub part_fields : Part → List Field
part_fields (parts.Row tag value) = cell_fields (Tag tag, value_text value)
part_fields (parts.Parties lines) = group_fields 453 (map party_cells lines.now)
part_fields (parts.Allocs lines) = group_fields 78 (map alloc_cells lines.now)
part_fields (parts.Sessions lines) = group_fields 386 (map session_cells lines.now)
part_fields (parts.Contras lines) = group_fields 382 (map contra_cells lines.now)

abbrev pub IsPart : Part → Type 0
IsPart (parts.Row tag value) = IsValue value
IsPart (parts.Parties lines) = AreReadableParties lines.now
IsPart (parts.Allocs lines) = AreReadableAllocs lines.now
IsPart (parts.Sessions lines) = Unit {0}
IsPart (parts.Contras lines) = AreReadableContras lines.now

-- the count of a group, where it has lines
abbrev pub count_fields : ℕ → ℕ → List Field
count_fields tag zero = []
count_fields tag (suc count) = (tag, decimal (suc count)) ∷ []
