-- Worked examples: spellings with what they are read as and how their value is written, computed
-- from the definitions alone.
use Rattle.std.proofs.Common.{◌≡◌, true, [], codes, Ok, Err, refl, pos, negsuc}
use Rattle.std.specs.Fmt.{digits}
use Rattle.jiff_core.specs.Calendar.{days_of_years, days_of_months, day_count, days_from_civil}
use Rattle.typed_fields.specs.declared.fault.FieldFault.TheVariants.{Empty, Form, Range}
use Rattle.typed_fields.specs.Digits.{are_digits, number_of, zero_padded, has_pattern}
use Rattle.typed_fields.specs.Digits.{without_leading_zeros, without_trailing_zeros}
use Rattle.typed_fields.specs.Dec.{read_dec, dec_text, plain_dec}
use Rattle.typed_fields.specs.Number.{read_number, number_text}
use Rattle.typed_fields.specs.Flag.{read_flag}
use Rattle.typed_fields.specs.MonthYear.{read_month_year, month_year_text}
use Rattle.typed_fields.specs.Day.{read_day, day_text, counted_off, date_of}
use Rattle.typed_fields.specs.declared.stamp.Fraction.TheVariants.{Whole, Three, Six, Nine}
use Rattle.typed_fields.specs.Stamp.{read_stamp, read_fine, cut_fraction, cut_text, stamp_millis}
use Rattle.typed_fields.specs.Stamp.{stamp_at}

-- FIX 4.2, float: 00023.23 is 23.23, and 23.0 is 23.0000 is 23 is 23.
floats : (read_dec (codes "00023.23") ≡ Ok (record { units = pos 2_323_000_000 }))
    × (read_dec (codes "23.0") ≡ read_dec (codes "23."))
    × (read_dec (codes "010.500") ≡ Ok (record { units = pos 1_050_000_000 }))
    × (read_dec (codes ".5") ≡ Ok (record { units = pos 50_000_000 }))
    × (read_dec (codes "-0.0") ≡ Ok (record { units = pos 0 }))
    × (read_dec (codes "-12.25") ≡ Ok (record { units = negsuc 1_224_999_999 }))
    × (read_dec (codes "1.123456789") ≡ Err Range) × (read_dec (codes "1e3") ≡ Err Form)
    × (read_dec (codes ".") ≡ Err Form) × (read_dec (codes "-") ≡ Err Form)
    × (read_dec (codes "+1") ≡ Err Form)
    × (read_dec (codes " 1") ≡ Err Form) × (read_dec [] ≡ Err Empty)
    × (read_dec (codes "999999999999999")
    ≡ Ok (record { units = pos 99_999_999_999_999_900_000_000 }))
    × (read_dec (codes "1000000000000000") ≡ Err Range)
    × (read_dec (codes "00000000000000000000000000000001")
    ≡ Ok (record { units = pos 100_000_000 }))
    × (read_dec (codes "000000000000000000000000000000001") ≡ Err Form)
unfolding are_digits number_of without_leading_zeros without_trailing_zeros
floats = (
  refl,
  refl,
  refl,
  refl,
  refl,
  refl,
  refl,
  refl,
  refl,
  refl,
  refl,
  refl,
  refl,
  refl,
  refl,
  refl,
  refl,
)

float_texts : (dec_text (record { units = pos 1_050_000_000 }) ≡ codes "10.5")
    × (dec_text (record { units = pos 50_000_000 }) ≡ codes "0.5")
    × (dec_text (record { units = pos 500_000_000 }) ≡ codes "5")
    × (dec_text (record { units = pos 0 }) ≡ codes "0")
    × (dec_text (record { units = negsuc 0 }) ≡ codes "-0.00000001")
    × (plain_dec (codes "010.500") ≡ codes "10.5")
    × (plain_dec (codes "-0.0") ≡ codes "0") × (plain_dec (codes "5.") ≡ codes "5")
unfolding digits zero_padded without_leading_zeros without_trailing_zeros
float_texts = (refl, refl, refl, refl, refl, refl, refl, refl)

numbers : (read_number (codes "00023") ≡ Ok (record { value = 23 }))
    × (read_number (codes "1000000001") ≡ Err Range)
    × (read_number (codes "00000000001") ≡ Err Form)
    × (number_text (record { value = 23 }) ≡ codes "23")
    × (read_flag (codes "Y") ≡ Ok (record { yes = true })) × (read_flag (codes "y") ≡ Err Form)
    × (read_month_year (codes "202412") ≡ Ok (record { year = 2024; month = 12 }))
    × (read_month_year (codes "202413") ≡ Err Range)
    × (month_year_text (record { year = 476; month = 9 }) ≡ codes "047609")
unfolding are_digits number_of digits has_pattern zero_padded
numbers = (refl, refl, refl, refl, refl, refl, refl, refl, refl)

-- 29 February 2024 is day 19,782, 1 January 0000 is 719,528 days before 1 January 1970, and 1900
-- was no leap year
days : (read_day (codes "20240229") ≡ Ok (record { day = pos 19_782 }))
    × (read_day (codes "00000101") ≡ Ok (record { day = negsuc 719_527 }))
    × (read_day (codes "19000229") ≡ Err Range)
    × (read_day (codes "20240230") ≡ Err Range)
    × (read_day (codes "20240001") ≡ Err Range) × (read_day (codes "2024-1-1") ≡ Err Form)
unfolding number_of has_pattern days_of_years days_of_months day_count days_from_civil
days = (refl, refl, refl, refl, refl, refl)

day_texts : (day_text (record { day = negsuc 719_468 }) ≡ codes "00000229")
    × (day_text (record { day = negsuc 719_161 }) ≡ codes "00010101")
unfolding zero_padded counted_off date_of
day_texts = (refl, refl)

moments : (read_stamp (codes "20240102-23:59:60")
    ≡ Ok (record { day = pos 19_724; hour = 23; minute = 59; second = 60; frac = Whole }))
    × (read_stamp (codes "20240230-00:00:00") ≡ Err Range)
    × (read_stamp (codes "20240102-23:59:59.12") ≡ Err Form) × (stamp_at 4_102_444_799_999
    ≡ record { day = pos 47_481; hour = 23; minute = 59; second = 59; frac = Three 999 })
    × (stamp_millis (record { day = negsuc 0; hour = 23; minute = 59; second = 60; frac = Whole })
    ≡ pos 0)
    × (read_stamp (codes "20240102-10:00:00.123999999") ≡ Err Form)
    × (read_fine (codes "20240102-10:00:00.1") ≡ Err Form)
    × (read_fine (codes "20240102-24:00:00.123999") ≡ Err Range)
    × (read_fine (codes "20240102-10:00:00.123999999")
    ≡ Ok (record { day = pos 19_724; hour = 10; minute = 0; second = 0; frac = Nine 123_999_999 }))
    × (read_stamp (cut_text (codes "20240102-10:00:00.123999999"))
    ≡ Ok (record { day = pos 19_724; hour = 10; minute = 0; second = 0; frac = Three 123 }))
    × (cut_fraction (Nine 123_999_999) ≡ Three 123) × (cut_fraction (Six 1_999) ≡ Three 1)
unfolding number_of has_pattern days_of_years days_of_months day_count days_from_civil
moments =
    (refl, refl, refl, refl, refl, refl, refl, refl, refl, refl, refl, refl)
