-- The date of a day, by counting off years and months, is the date to which jiff's calendar gives
-- the number of that day.
use Rattle.std.proofs.Common.{to_z, of_z, to_z-of_z, w32, FitsSigned, ◌≡◌, ◌^◌, nat_le, subst}
use Rattle.std.proofs.Common.{if◌then◌else◌, List, take, Some, None, slice_range, ℕ, zero, suc, ◌+◌}
use Rattle.std.proofs.Common.{◌-◌, ◌<◌, ◌≤◌, Bool, true, false, nat_lt, inl, inr, refl, sym, ap}
use Rattle.std.proofs.Common.{◌∙◌, arith, add-zero, ℤ, pos, negsuc, ◌+ℤ◌, ◌-ℤ◌, ◌≤ℤ◌, unsigned_abs}
use Rattle.std.proofs.lemmas.Bool.{cases_lt}
use Rattle.std.proofs.lemmas.Bool.Decides.{nat_tests}
use Rattle.jiff_core.specs.Calendar.{days_of_years, days_of_months, day_count, days_from_civil}
use Rattle.jiff_core.specs.Calendar.{days_in_month, days_in_year}
use Rattle.jiff_core.proofs.CalendarLemmas.{days_from_civil-day_count, days_of_months-zero}
use Rattle.jiff_core.proofs.CalendarLemmas.{days_of_months_all, days_of_months_mono}
use Rattle.jiff_core.proofs.MarchLemmas.{days_of_years-march_days}
use Rattle.jiff_core.proofs.SignedLemmas.{signed_arith}
use Rattle.jiff_core.proofs.DateLemmas.{epoch_day_injective}
use Rattle.jiff_core.specs.Date.{epoch_day}
use Rattle.jiff_core.specs.declared.civil.date.Date.{Date as JiffDate}
use borrow.Author.Differences.{up, down}
use Rattle.typed_fields.specs.Day.{counted_off, date_in_year, date_in_month, date_of, is_date}
use Rattle.typed_fields.specs.Day.{IsDayNumber, Date, year_in, month_in, day_in, spells_date}
use Rattle.typed_fields.specs.Day.{day_number}
use Rattle.typed_fields.specs.Digits.{are_digits, number_of}
use Rattle.typed_fields.proofs.DigitsLemmas.{both_true, are_digits-part, number_of-lt}
use Rattle.std.proofs.lemmas.List.{length-take}
use Rattle.std.specs.Int.{is_in_range}

-- `total n` days lie before the nth year or month, which has `days_in n` of them
module _ (days_in total : ℕ → ℕ)
    (low : ℕ) (step : (n : ℕ) → low ≤ n → total (n + 1) ≡ total n + days_in n) where
  total_mono : (n k : ℕ) → low ≤ n → total n ≤ total (n + k)
  total_mono n zero base = rw add-zero (omega arith)
  total_mono n (suc k) base =
      let e : n + suc k ≡ n + k + 1 = omega arith in
      rw e (omega (arith, step (n + k) (omega arith), total_mono n k base))

  holds_here : (room first days : ℕ)
      → days < days_in first → counted_off days_in (suc room) first days ≡ (first, days)
  unfolding counted_off
  holds_here room first days h = let test : nat_lt days (days_in first) ≡ true =
      grind (arith, nat_tests) in rw (test, counted_off)

  holds_later : (room first days : ℕ) → days_in first ≤ days → counted_off
      days_in (suc room) first days ≡ counted_off days_in room (first + 1) (days - days_in first)
  unfolding counted_off
  holds_later room first days h = let test : nat_lt days (days_in first) ≡ false =
      grind (arith, nat_tests) in rw (test, counted_off)

  holds_last : (first days : ℕ) → counted_off days_in zero first days ≡ (first, days)
  unfolding counted_off
  holds_last first days = refl

  pub counted : (room first k days r : ℕ) → low ≤ first → k ≤ room → r < days_in (first + k) → days
      + total first ≡ total (first + k) + r → counted_off days_in room first days ≡ (first + k, r)
  counted zero first zero days r base few within count =
      let here : first + 0 ≡ first = add-zero first in
      let count' = rw here at count in
      let same : days ≡ r = omega (arith, count') in
      rw here (holds_last first days ∙ ap (λ d. (first, d)) same)
  counted zero first (suc k) days r base few within count = absurd (omega arith)
  counted (suc room) first zero days r base few within count =
      let here : first + 0 ≡ first = add-zero first in
      let count' = rw here at count in
      let within' = rw here at within in
      let same : days ≡ r = omega (arith, count') in
      rw here (holds_here room first days (omega (arith, within')) ∙ ap (λ d. (first, d)) same)
  counted (suc room) first (suc k) days r base few within count =
      let next : first + suc k ≡ first + 1 + k = omega arith in
      let count' = rw next at count in
      let within' = rw next at within in
      let more = step first base in
      let least = total_mono (first + 1) k (omega arith) in
      rw next (holds_later room first days (omega (arith, count', more, least))
      ∙ counted room (first + 1) k (days - days_in first)
      r (omega arith) (omega arith) within' (omega (arith, count', more, least)))

  -- what counting finds
  pub record Found (room first days : ℕ) : Type 0 where
    pub k : ℕ
    pub r : ℕ
    pub few : k ≤ room
    pub within : r < days_in (first + k)
    pub count : days + total first ≡ total (first + k) + r

  found_here : (room first days : ℕ) → days < days_in first → Found room first days
  found_here room first days h =
      let here : first + 0 ≡ first = add-zero first in
      record {
        k = 0;
        r = days;
        few = omega arith;
        within = rw here h;
        count = rw here (omega arith);
      }

  pub found : (room first days : ℕ)
      → low ≤ first → days + total first < total (first + room + 1) → Found room first days
  found zero first days base h =
      let here : first + 0 ≡ first = add-zero first in
      let h' = rw here at h in
      found_here zero first days (omega (arith, h', step first base))
  found (suc room) first days base h =
      elim (cases_lt days (days_in first)) [
        | inl lt ↦ found_here (suc room) first days lt
        | inr ge ↦
            let next : first + suc room + 1 ≡ first + 1 + room + 1 = omega arith in
            let h' = rw next at h in
            let rest = found room (first + 1)
            (days - days_in first) (omega arith) (omega (arith, h', step first base)) in
            let same : first + suc rest.k ≡ first + 1 + rest.k = omega arith in
            record {
              k = suc rest.k;
              r = rest.r;
              few = omega (arith, rest.few);
              within = rw same rest.within;
              count = rw same (omega (arith, rest.count, step first base));
            }
      ]

-- one more year, and one more month
year_step : (a : ℕ)
    → 0 ≤ a → days_of_years (10000 + (a + 1)) ≡ days_of_years (10000 + a) + days_in_year (pos a)
unfolding days_of_years
year_step a h =
    let e : 10000 + (a + 1) ≡ suc (10000 + a) = omega arith in
    let back : pos (10000 + a) -ℤ pos 10000 ≡ pos a = omega (arith, signed_arith) in
    rw (e, back)

month_step : (y : ℤ) (m : ℕ)
    → 1 ≤ m → days_of_months y (m + 1 - 1) ≡ days_of_months y (m - 1) + days_in_month y m
unfolding days_of_months
month_step y zero h = absurd (omega arith)
month_step y (suc p) h =
    let e : suc p + 1 - 1 ≡ suc p = omega arith in
    let f : suc p - 1 ≡ p = omega arith in
    rw (e, f)

-- the days of 10,000 and of 20,000 years
ten_thousand : days_of_years 10000 ≡ 3_652_425
ten_thousand = omega (arith, days_of_years-march_days 10000)

twenty_thousand : days_of_years 20000 ≡ 7_304_850
twenty_thousand = omega (arith, days_of_years-march_days 20000)

-- a date's count of days, from 1 January of the year -10000
day_count_parts : (y m d : ℕ) → 1 ≤ d
    → day_count (pos y) m d + 1 ≡ days_of_years (10000 + y) + days_of_months (pos y) (m - 1) + d
unfolding day_count
day_count_parts y m d h =
    let e : y + 10000 ≡ 10000 + y = omega arith in rw e (omega arith)

-- a date of the calendar, of a year from 0000 to 9999
pub record IsDate (y m d : ℕ) : Type 0 where
  pub year : y ≤ 9999
  pub month_low : 1 ≤ m
  pub month_high : m ≤ 12
  pub day_low : 1 ≤ d
  pub day_high : d ≤ days_in_month (pos y) m

-- the place of a date in its year
place_in_year : (y m d : ℕ)
    → IsDate y m d → days_of_months (pos y) (m - 1) + (d - 1) < days_in_year (pos y)
place_in_year y m d h =
    omega (
      arith,
      month_step (pos y) m h.month_low,
      days_of_months_mono (pos y) (m + 1 - 1)
          12 (omega (arith, h.month_high)),
      days_of_months_all (pos y),
      h.day_low,
      h.day_high,
    )

from_year_zero : (y : ℕ) → days_of_years 10000 ≤ days_of_years (10000 + y)
from_year_zero y =
    let e : 0 + y ≡ y = omega arith in
    rw e at (total_mono (λ year. days_in_year (pos year))
    (λ year. days_of_years (10000 + year)) 0 year_step 0 y (omega arith))

abs_nonnegative : (z : ℤ) → pos 0 ≤ℤ z → pos (unsigned_abs z) ≡ z
abs_nonnegative (pos n) h = refl
abs_nonnegative (negsuc n) h = absurd (omega (arith, signed_arith))

-- a date's day, counted from 1 January 0000
number_place : (y m d : ℕ) → 1 ≤ d → unsigned_abs (days_from_civil (pos y) m d +ℤ pos 719_528)
    + days_of_years 10000 ≡ days_of_years (10000 + y) + (days_of_months (pos y) (m - 1) + (d - 1))
number_place y m d h =
    let nonnegative : pos 0 ≤ℤ (days_from_civil (pos y) m d +ℤ pos 719_528) =
    omega (
      arith,
      signed_arith,
      days_from_civil-day_count (pos y) m d,
      day_count_parts y m d h,
      ten_thousand,
      from_year_zero y,
    ) in
    omega (
      arith,
      signed_arith,
      days_from_civil-day_count (pos y) m d,
      day_count_parts y m d h,
      ten_thousand,
      from_year_zero y,
      abs_nonnegative _ nonnegative,
    )

-- the date of the day with a date's number is that date
pub date_of-days_from_civil : (y m d : ℕ)
    → IsDate y m d → date_of (days_from_civil (pos y) m d) ≡ (y, m, d)
unfolding date_of
date_of-days_from_civil y m d h =
    let day = days_from_civil (pos y) m d in
    let place = days_of_months (pos y) (m - 1) + (d - 1) in
    let zero_y : 0 + y ≡ y = omega arith in
    let years : counted_off (λ year. days_in_year (pos year))
    9999 0 (unsigned_abs (day +ℤ pos 719_528)) ≡ (0 + y, place) =
    counted (λ year. days_in_year (pos year))
    (λ year. days_of_years (10000 + year)) 0 year_step 9999 0 y _ place
    (omega arith) (omega (arith, h.year))
    (rw zero_y (place_in_year y m d h)) (rw zero_y (number_place y m d h.day_low)) in
    let month : 1 + (m - 1) ≡ m = omega (arith, h.month_low) in
    let months : counted_off (days_in_month (pos y)) 11 1 place ≡ (1 + (m - 1), d - 1) =
    counted (days_in_month (pos y))
    (λ m. days_of_months (pos y) (m - 1)) 1 (month_step (pos y)) 11 1 (m - 1) place (d - 1)
    (omega arith) (omega (arith, h.month_high)) (rw month (omega (arith, h.day_low, h.day_high)))
    (rw month (omega (arith, days_of_months-zero (pos y)))) in
    let last : d - 1 + 1 ≡ d = omega (arith, h.day_low) in
    ap date_in_year (rw zero_y at years)
    ∙ (ap (date_in_month y) (rw month at months) ∙ ap (λ n. (y, m, n)) last)

-- a day that can be read is the day of a date
pub record HasDate (day : ℤ) : Type 0 where
  pub y : ℕ
  pub m : ℕ
  pub d : ℕ
  pub is_date : IsDate y m d
  pub number : days_from_civil (pos y) m d ≡ day

pub date_found : (day : ℤ) → IsDayNumber day → HasDate day
date_found day h =
    let count = unsigned_abs (day +ℤ pos 719_528) in
    let nonnegative : pos 0 ≤ℤ (day +ℤ pos 719_528) = omega (arith, signed_arith) in
    let low : count + down day ≡ up day + 719_528 =
    omega (arith, signed_arith, abs_nonnegative _ nonnegative) in
    let high : count < 3_652_425 = omega (arith, signed_arith) in
    let year = found (λ year. days_in_year (pos year))
    (λ year. days_of_years (10000 + year)) 0 year_step 9999 0 count
    (omega arith) (omega (arith, high, ten_thousand, twenty_thousand)) in
    let zero_y : 0 + year.k ≡ year.k = omega arith in
    let within = rw zero_y at year.within in
    let count_y = rw zero_y at year.count in
    let month = found (days_in_month (pos year.k))
    (λ m. days_of_months (pos year.k) (m - 1)) 1 (month_step (pos year.k)) 11 1 year.r
    (omega arith)
    (omega (arith, days_of_months-zero (pos year.k), days_of_months_all (pos year.k), within))
    in
    let date : IsDate year.k (1 + month.k) (month.r + 1) = record {
      year = year.few;
      month_low = omega arith;
      month_high = omega (arith, month.few);
      day_low = omega arith;
      day_high = omega (arith, month.within);
    } in
    record {
      y = year.k;
      m = 1 + month.k;
      d = month.r + 1;
      is_date = date;
      number = omega (
        arith,
        signed_arith,
        days_from_civil-day_count (pos year.k) (1 + month.k)
            (month.r + 1),
        day_count_parts year.k (1 + month.k) (month.r + 1) (omega arith),
        ten_thousand,
        count_y,
        month.count,
        days_of_months-zero (pos year.k),
        low,
      );
    }

same_date : (y m d m₂ d₂ : ℕ) → m₂ ≡ m → d₂ ≡ d → ◌≡◌ {A = Date} (y, m, d) (y, m₂, d₂)
same_date y m d m₂ d₂ e f = rw (e, f)

-- what jiff's date of such a day is
pub record HasParts (date : JiffDate) : Type 0 where
  pub y : ℕ
  pub year : date.year ≡ pos y
  pub small : y ≤ 9999
  pub date_is : date_of (epoch_day date) ≡ (y, date.month, date.day)

pub date_parts : (date : JiffDate) → IsDayNumber (epoch_day date) → HasParts date
date_parts date h =
    let known = date_found (epoch_day date) h in
    let own : JiffDate = record {
      year = pos known.y;
      month = known.m;
      day = known.d;
      year_in = omega (arith, signed_arith, known.is_date.year);
      month_in = (known.is_date.month_low, known.is_date.month_high);
      day_in = (known.is_date.day_low, known.is_date.day_high);
    } in
    let same = epoch_day_injective date own (sym known.number) in
    record {
      y = known.y;
      year = same.0;
      small = known.is_date.year;
      date_is =
          ap date_of (sym known.number)
          ∙ (date_of-days_from_civil known.y known.m known.d known.is_date
          ∙ same_date known.y known.m known.d date.month date.day same.1 same.2);
    }

-- the number of a date is that of a day that can be read
pub IsDayNumber-days_from_civil : (y m d : ℕ)
    → IsDate y m d → IsDayNumber (days_from_civil (pos y) m d)
IsDayNumber-days_from_civil y m d h =
    let before_end : days_of_years (10000 + (y + 1))
    ≤ days_of_years (10000 + (y + 1 + (9999 - y))) =
    total_mono (λ year. days_in_year (pos year))
    (λ year. days_of_years (10000 + year)) 0 year_step (y + 1) (9999 - y) (omega arith) in
    let end : 10000 + (y + 1 + (9999 - y)) ≡ 20000 = omega (arith, h.year) in
    omega (
      arith,
      signed_arith,
      days_from_civil-day_count (pos y) m d,
      day_count_parts y m d h.day_low,
      ten_thousand,
      twenty_thousand,
      rw end at before_end,
      from_year_zero y,
      year_step y (omega arith),
      place_in_year y m d h,
    )

-- what the tests of a date say
pub in_range_true : (low high n : ℕ) → is_in_range low high n ≡ true → (low ≤ n) × (n ≤ high)
in_range_true low high n h =
    let parts = both_true (nat_le low n) (nat_le n high) h in
    (grind (arith, nat_tests), grind (arith, nat_tests))

pub in_range_holds : (low high n : ℕ) → low ≤ n → n ≤ high → is_in_range low high n ≡ true
in_range_holds low high n h k = grind (arith, nat_tests)

pub IsDate-is_date : (y m d : ℕ) → y ≤ 9999 → is_date y m d ≡ true → IsDate y m d
IsDate-is_date y m d small h =
    let parts = both_true (is_in_range 1 12 m) (is_in_range 1 (days_in_month (pos y) m) d) h in
    let month = in_range_true 1 12 m parts.0 in
    let day = in_range_true 1 (days_in_month (pos y) m) d parts.1 in
    record {
      year = small;
      month_low = month.0;
      month_high = month.1;
      day_low = day.0;
      day_high = day.1;
    }

pub is_date-IsDate : (y m d : ℕ) → IsDate y m d → is_date y m d ≡ true
is_date-IsDate y m d h =
    let month = in_range_holds 1 12 m h.month_low h.month_high in
    let day = in_range_holds 1 (days_in_month (pos y) m) d h.day_low h.day_high in
    rw (month, day)

-- a year of four digits
pub year_in-le : (bytes : List ℕ) → are_digits (take 8 bytes) ≡ true → year_in bytes ≤ 9999
year_in-le bytes h =
    let small : number_of (slice_range bytes 0 4) < 10 ^ 4 =
    number_of-lt (slice_range bytes 0 4)
    4 (are_digits-part bytes 8 0 4 h (omega arith)) (omega (arith, length-take {A = ℕ})) in
    omega arith

-- the day that bytes spell can be read
pub IsDayNumber-spelled : (bytes : List ℕ) (day : ℤ) → are_digits (take 8 bytes) ≡ true
    → (if spells_date bytes then Some (day_number bytes) else None) ≡ Some day → IsDayNumber day
IsDayNumber-spelled bytes day h e = go (spells_date bytes) refl e
  where
    go : (b : Bool) → spells_date bytes ≡ b
        → (if b then Some (day_number bytes) else None) ≡ Some day → IsDayNumber day
    go true t e =
        let same : day_number bytes ≡ day = cc in
        let P : ℤ → Type 0 = λ z. IsDayNumber z in
        subst P same (IsDayNumber-days_from_civil (year_in bytes)
        (month_in bytes) (day_in bytes) (IsDate-is_date _ _ _ (year_in-le bytes h) t))
    go false t e = absurd cc

-- a day that can be read fits its type
pub day_fits : (day : ℤ) → IsDayNumber day → to_z w32 (of_z w32 day) ≡ day
day_fits day h = to_z-of_z (let fits : FitsSigned w32 day = omega (arith, signed_arith) in fits)
