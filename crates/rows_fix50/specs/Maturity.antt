-- Inside: the parts of a date, and maturities that say what the fields say.
use Rattle.std.specs.Prelude.{◌≡◌, ℕ, List, ◌++◌, length, take, drop, Option, Some}
use Rattle.std.specs.Prelude.{option_and_then}
use Rattle.std.specs.Option.{option_map}
use Rattle.value_kinds.specs.ValueKind.{Day, MonthYear, DayOfMonth, spelled}
use Rattle.field_groups.specs.Field.{Field}
use Rattle.row_values.specs.declared.lines.Maturity.{Maturity}
use Rattle.row_values.specs.Kinds.{Value, MonthBeside, said}
use Rattle.row_values.specs.Lines.{month_text, date_text}
use Rattle.rows_fix50.specs.Header.{month_by}

-- the parts of a date
pub record IsDate (date : List ℕ) : Type 0 where
  pub eight : length date ≡ 8
  pub itself : spelled Day date ≡ Some date
  pub month : spelled MonthYear (take 6 date) ≡ Some (take 6 date)
  pub day : spelled DayOfMonth (drop 6 date) ≡ Some (drop 6 date)
  pub whole : take 6 date ++ drop 6 date ≡ date

-- a maturity says what the fields say
pub record IsMaturity (fields : List Field) (maturity : Option Maturity) : Type 0 where
  pub month : option_map month_text maturity
      ≡ month_by (said fields 541 (Value Day)) (said fields 200 (MonthBeside 541))
  pub date : option_and_then date_text maturity ≡ said fields 541 (Value Day)
