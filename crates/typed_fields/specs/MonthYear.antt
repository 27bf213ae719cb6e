-- Standard: month-year (FIX 4.2, Data Types): YYYYMM, with YYYY from 0000 to 9999 and MM from 01 to
-- 12.
use Rattle.std.specs.Prelude.{ℕ, ◌<◌, List, ◌++◌, Result, slice_range, codes}
use Rattle.std.specs.Int.{is_in_range, IsInRange}
use Rattle.typed_fields.specs.declared.fault.FieldFault.{FieldFault}
use Rattle.typed_fields.specs.declared.month_year.MonthYear.{MonthYear}
use Rattle.typed_fields.specs.Reading.{judged}
use Rattle.typed_fields.specs.Digits.{number_of, has_pattern, zero_padded}

-- the year and the month that YYYYMM.. spells
abbrev pub year_in : List ℕ → ℕ
year_in bytes = number_of (slice_range bytes 0 4)

abbrev pub month_in : List ℕ → ℕ
month_in bytes = number_of (slice_range bytes 4 6)

-- the reading of a month of a year
abbrev pub read_month_year : List ℕ → Result MonthYear FieldFault
read_month_year bytes =
    judged bytes (has_pattern (codes "YYYYMM") bytes) (is_in_range 1 12 (month_in bytes))
    (record { year = year_in bytes; month = month_in bytes })

-- a month that can be read
abbrev pub IsMonthYear : MonthYear → Type 0
IsMonthYear m = (m.year < 10000) × IsInRange 1 12 m.month

-- the one spelling of a month
abbrev pub month_year_text : MonthYear → List ℕ
month_year_text m = zero_padded 4 m.year ++ zero_padded 2 m.month
