-- Inside: a maturity that says what fields say in FIX 4.2, a month and a day of it.
use Rattle.std.specs.Prelude.{◌≡◌, List, Option, None, option_and_then}
use Rattle.std.specs.Option.{option_map}
use Rattle.field_groups.specs.Field.{Field}
use Rattle.row_values.specs.declared.lines.Maturity.{Maturity}
use Rattle.value_kinds.specs.ValueKind.{MonthYear}
use Rattle.row_values.specs.Kinds.{Value, DayOf, said}
use Rattle.row_values.specs.Lines.{month_text, month_day_text}

-- a maturity says what the fields say, where a day has its month
pub record IsMaturity (fields : List Field) (maturity : Option Maturity) : Type 0 where
  pub month : option_map month_text maturity ≡ said fields 200 (Value MonthYear)
  pub day : (said fields 200 (Value MonthYear) ≡ None → said fields 205 (DayOf 200) ≡ None)
      → option_and_then month_day_text maturity ≡ said fields 205 (DayOf 200)
