-- Standard: UTCTimestamp (FIX 4.2, Data Types): YYYYMMDD-HH:MM:SS or YYYYMMDD-HH:MM:SS.sss, with
-- hours 00 to 23, minutes 00 to 59 and seconds 00 to 60, where 60 is a leap second. FIX 5.0 SP2 has
-- microseconds and nanoseconds, too: six or nine digits of the second.
use Rattle.std.specs.Prelude.{ℕ, ◌+◌, ◌*◌, ◌/◌, ◌%◌, ◌^◌, ◌<◌, ◌≤◌, Bool, ◌&&◌, ◌||◌, List, []}
use Rattle.std.specs.Prelude.{◌∷◌, ◌++◌, length, take, drop, Result, slice_range, codes, nat_le}
use Rattle.std.specs.Prelude.{ℤ, pos, ◌+ℤ◌, ◌*ℤ◌, ◌==◌, if◌then◌else◌}
use Rattle.typed_fields.specs.declared.fault.FieldFault.{FieldFault}
use Rattle.typed_fields.specs.declared.stamp.Fraction.{Fraction}
use Rattle.typed_fields.specs.declared.stamp.Fraction.TheVariants.{Whole, Three, Six, Nine}
use Rattle.typed_fields.specs.declared.stamp.Stamp.{Stamp}
use Rattle.typed_fields.specs.Reading.{judged}
use Rattle.typed_fields.specs.Digits.{number_of, has_pattern, zero_padded}
use Rattle.typed_fields.specs.Day.{spells_date, day_number, day_digits, IsDayNumber}

-- the form: whole seconds, or milliseconds
abbrev pub is_stamp_form : List ℕ → Bool
is_stamp_form bytes =
    has_pattern (codes "YYYYMMDD-HH:MM:SS") bytes
    || has_pattern (codes "YYYYMMDD-HH:MM:SS.sss") bytes

-- the fine form: besides, microseconds, or nanoseconds
abbrev pub is_fine_form : List ℕ → Bool
is_fine_form bytes =
    is_stamp_form bytes || (has_pattern (codes "YYYYMMDD-HH:MM:SS.ssssss") bytes
    || has_pattern (codes "YYYYMMDD-HH:MM:SS.sssssssss") bytes)

-- what the bytes spell behind the date
abbrev pub hour_in : List ℕ → ℕ
hour_in bytes = number_of (slice_range bytes 9 11)

abbrev pub minute_in : List ℕ → ℕ
minute_in bytes = number_of (slice_range bytes 12 14)

abbrev pub second_in : List ℕ → ℕ
second_in bytes = number_of (slice_range bytes 15 17)

-- the digits of the second that are behind its point
abbrev pub behind_point : List ℕ → List ℕ
behind_point bytes = drop 18 bytes

-- the fraction that digits spell
abbrev pub fraction_of : List ℕ → Fraction
fraction_of digits =
    if length digits == 3 then Three (number_of digits) else
    (if length digits == 6 then Six (number_of digits) else
    (if length digits == 9 then Nine (number_of digits) else Whole))

-- the bound: a date of the calendar, and a time with hours to 23, minutes to 59 and seconds to 60
abbrev pub spells_moment : List ℕ → Bool
spells_moment bytes =
    spells_date bytes && (nat_le (hour_in bytes) 23
    && (nat_le (minute_in bytes) 59 && nat_le (second_in bytes) 60))

-- the stamp that the bytes spell
abbrev pub stamp_in : List ℕ → Stamp
stamp_in bytes = record {
  day = day_number bytes;
  hour = hour_in bytes;
  minute = minute_in bytes;
  second = second_in bytes;
  frac = fraction_of (behind_point bytes);
}

-- the reading of a stamp, and its fine reading
abbrev pub read_stamp : List ℕ → Result Stamp FieldFault
read_stamp bytes = judged bytes (is_stamp_form bytes) (spells_moment bytes) (stamp_in bytes)

abbrev pub read_fine : List ℕ → Result Stamp FieldFault
read_fine bytes = judged bytes (is_fine_form bytes) (spells_moment bytes) (stamp_in bytes)

-- how many digits a fraction has, and the number that they spell
abbrev pub width : Fraction → ℕ
width Whole = 0
width (Three number) = 3
width (Six number) = 6
width (Nine number) = 9

abbrev pub number_in : Fraction → ℕ
number_in Whole = 0
number_in (Three number) = number
number_in (Six number) = number
number_in (Nine number) = number

-- a stamp that the fine reading can give
pub record IsFine (s : Stamp) : Type 0 where
  pub day : IsDayNumber s.day
  pub hour : s.hour ≤ 23
  pub minute : s.minute ≤ 59
  pub second : s.second ≤ 60
  pub frac : number_in s.frac < 10 ^ width s.frac

-- a stamp that can be read: it has no more than three digits of the second
pub record IsStamp (s : Stamp) : Type 0 where
  pub fine : IsFine s
  pub milli : width s.frac ≤ 3

-- a point and the digits of a fraction, or nothing
abbrev pub fraction_text : Fraction → List ℕ
fraction_text Whole = []
fraction_text (Three number) = 46 ∷ zero_padded 3 number
fraction_text (Six number) = 46 ∷ zero_padded 6 number
fraction_text (Nine number) = 46 ∷ zero_padded 9 number

-- the spelling of a stamp without its fraction: 45 is '-', and 58 is ':'
abbrev pub seconds_text : Stamp → List ℕ
seconds_text s =
    day_digits s.day ++ 45 ∷ [] ++ zero_padded 2 s.hour
    ++ 58 ∷ [] ++ zero_padded 2 s.minute ++ 58 ∷ [] ++ zero_padded 2 s.second

-- the one spelling of a stamp
abbrev pub stamp_text : Stamp → List ℕ
stamp_text s = seconds_text s ++ fraction_text s.frac

-- A stamp with no more digits of the second than three: the others are left out. Its spelling,
-- where the stamp is spelled so: its first 21 bytes.
abbrev pub cut_fraction : Fraction → Fraction
cut_fraction (Six number) = Three (number / 1000)
cut_fraction (Nine number) = Three (number / 1_000_000)
cut_fraction fraction = fraction

abbrev pub cut : Stamp → Stamp
cut s = record s { frac = cut_fraction s.frac }

abbrev pub cut_text : List ℕ → List ℕ
cut_text text = take 21 text

-- the milliseconds of the time of day
abbrev pub millis_of_day : Stamp → ℕ
millis_of_day s = 3_600_000 * s.hour + 60_000 * s.minute + 1000 * s.second
    + number_in (cut_fraction s.frac)

-- the moment of a stamp: the milliseconds since 1 January 1970, 00:00
abbrev pub stamp_millis : Stamp → ℤ
stamp_millis s = s.day *ℤ pos 86_400_000 +ℤ pos (millis_of_day s)

-- the stamp of a moment, with three digits of the second
abbrev pub stamp_at : ℕ → Stamp
stamp_at ms = record {
  day = pos (ms / 86_400_000);
  hour = ms / 3_600_000 % 24;
  minute = ms / 60_000 % 60;
  second = ms / 1000 % 60;
  frac = Three (ms % 1000);
}
