-- Standard: LocalMktDate and UTCDate (FIX 4.2, Data Types), in FIX 5.0 SP2 UTCDateOnly: YYYYMMDD,
-- on the calendar of jiff, which is the proleptic Gregorian one. A day is known by its number: 0 is
-- 1 January 1970.
use Rattle.std.specs.Prelude.{ℕ, zero, suc, ◌+◌, ◌-◌, Bool, true, false, ◌&&◌, List, ◌++◌, Result}
use Rattle.std.specs.Prelude.{slice_range, codes, nat_lt, ℤ, pos, negsuc, ◌+ℤ◌, unsigned_abs}
use Rattle.std.specs.Int.{is_in_range}
use Rattle.jiff_core.specs.Calendar.{days_from_civil, days_in_month, days_in_year, IsBetween}
use Rattle.typed_fields.specs.declared.fault.FieldFault.{FieldFault}
use Rattle.typed_fields.specs.declared.day.Day.{Day}
use Rattle.typed_fields.specs.Reading.{judged}
use Rattle.typed_fields.specs.Digits.{number_of, has_pattern, zero_padded}

-- what YYYYMMDD.. spells
abbrev pub year_in : List ℕ → ℕ
year_in bytes = number_of (slice_range bytes 0 4)

abbrev pub month_in : List ℕ → ℕ
month_in bytes = number_of (slice_range bytes 4 6)

abbrev pub day_in : List ℕ → ℕ
day_in bytes = number_of (slice_range bytes 6 8)

-- whether the calendar has a date of a year from 0000 to 9999
abbrev pub is_date : ℕ → ℕ → ℕ → Bool
is_date year month day =
    is_in_range 1 12 month && is_in_range 1 (days_in_month (pos year) month) day

-- whether YYYYMMDD.. spells a date that the calendar has, and the number of its day
abbrev pub spells_date : List ℕ → Bool
spells_date bytes = is_date (year_in bytes) (month_in bytes) (day_in bytes)

abbrev pub day_number : List ℕ → ℤ
day_number bytes = days_from_civil (pos (year_in bytes)) (month_in bytes) (day_in bytes)

-- the reading of a day
abbrev pub read_day : List ℕ → Result Day FieldFault
read_day bytes = judged bytes
    (has_pattern (codes "YYYYMMDD") bytes) (spells_date bytes) (record { day = day_number bytes })

-- the number of a day from 1 January 0000 to 31 December 9999
abbrev pub IsDayNumber : ℤ → Type 0
IsDayNumber day = IsBetween (negsuc 719_527) (pos 2_932_896) day

-- a day that can be read
abbrev pub IsDay : Day → Type 0
IsDay d = IsDayNumber d.day

-- a date: its year, month and day of the month
abbrev pub Date : Type 0
Date = ℕ × ℕ × ℕ

-- which of some years or months, counted from `first` on, holds a day so many days after the first
-- began, and the place of the day in it: whole ones are counted off, at most `room` of them
unfoldable pub counted_off : (ℕ → ℕ) → ℕ → ℕ → ℕ → ℕ × ℕ
counted_off days_in zero first days = (first, days)
counted_off days_in (suc room) first days =
    elim (nat_lt days (days_in first)) [
      | true ↦ (first, days)
      | false ↦ counted_off days_in room (first + 1) (days - days_in first)
    ]

-- the date of a month of a year, and of a day of a year, at places that count from 0
abbrev pub date_in_month : ℕ → ℕ × ℕ → Date
date_in_month year month = (year, month.0, month.1 + 1)

abbrev pub date_in_year : ℕ × ℕ → Date
date_in_year year = date_in_month year.0 (counted_off (days_in_month (pos year.0)) 11 1 year.1)

-- the date of a day from 1 January 0000, which is 719,528 days before 1 January 1970, to 31
-- December 9999: whole years are counted off, and then whole months
unfoldable pub date_of : ℤ → Date
date_of day = date_in_year
    (counted_off (λ year. days_in_year (pos year)) 9999 0 (unsigned_abs (day +ℤ pos 719_528)))

-- a date as YYYYMMDD
abbrev pub date_text : Date → List ℕ
date_text date = zero_padded 4 date.0 ++ zero_padded 2 date.1 ++ zero_padded 2 date.2

-- the eight digits of a day by its number
abbrev pub day_digits : ℤ → List ℕ
day_digits day = date_text (date_of day)

-- the one spelling of a day
abbrev pub day_text : Day → List ℕ
day_text d = day_digits d.day
