-- The laws of days.
use Rattle.std.proofs.Common.{◌≡◌, ℕ, ◌+◌, ◌/◌, ◌%◌, ◌≤◌, true, List, [], ◌∷◌, ◌++◌, drop}
use Rattle.std.proofs.Common.{slice_range, codes, Ok, refl, sym, ap, ◌∙◌, arith, pos}
use Rattle.std.specs.Char.{is_ascii_digit}
use Rattle.std.proofs.lemmas.List.{drop_all, append-nil, append_assoc}
use Rattle.jiff_core.proofs.CalendarLemmas.{days_in_month_bounds}
use Rattle.typed_fields.specs.declared.day.Day.{Day}
use Rattle.typed_fields.specs.Digits.{has_pattern}
use Rattle.typed_fields.specs.Day.{year_in, month_in, day_in, spells_date, day_number, read_day}
use Rattle.typed_fields.specs.Day.{IsDay, date_of, date_text, day_digits, day_text}
use Rattle.typed_fields.specs.Laws.{ReadsBack, IsPlain}
use Rattle.typed_fields.proofs.DateLemmas.{IsDate, date_found, date_of-days_from_civil}
use Rattle.typed_fields.proofs.DateLemmas.{is_date-IsDate, IsDate-is_date, year_in-le}
use Rattle.typed_fields.proofs.DigitsLemmas.{zero_padded_two, zero_padded_four, length-has_pattern}
use Rattle.typed_fields.proofs.DigitsLemmas.{digits_of_pattern}
use Rattle.typed_fields.proofs.SpellingLemmas.{judged_ok, judged_good, two_back, four_back}
use Rattle.typed_fields.proofs.SpellingLemmas.{is_digit-last, slice_then, part_back}

-- eight digits have the form of a day
eight_digits : (a b c d e f g h : ℕ) → is_ascii_digit a ≡ true → is_ascii_digit b ≡ true
    → is_ascii_digit c ≡ true → is_ascii_digit d ≡ true → is_ascii_digit e ≡ true
    → is_ascii_digit f ≡ true → is_ascii_digit g ≡ true → is_ascii_digit h ≡ true
    → has_pattern (codes "YYYYMMDD") (a ∷ b ∷ c ∷ d ∷ e ∷ f ∷ g ∷ h ∷ []) ≡ true
unfolding has_pattern
eight_digits a b c d e f g h p q r s t u v w = rw (p, q, r, s, t, u, v, w)

-- the days of a month are at most 31
pub day_below : (y m d : ℕ) → IsDate y m d → d ≤ 31
day_below y m d h = omega (arith, h.day_high, days_in_month_bounds (pos y) m)

pub day_reads_back : ReadsBack read_day IsDay day_text
day_reads_back day h =
    let date = date_found day.day h in
    let y = date.y in
    let m = date.m in
    let d = date.d in
    let v = (48 + y / 1000 % 10) ∷ (48 + y / 100 % 10) ∷ (48 + y / 10 % 10) ∷ (48 + y % 10)
    ∷ (48 + m / 10 % 10) ∷ (48 + m % 10) ∷ (48 + d / 10 % 10) ∷ (48 + d % 10) ∷ [] in
    let year : year_in v ≡ y = four_back y (omega (arith, date.is_date.year)) in
    let month : month_in v ≡ m = two_back m (omega (arith, date.is_date.month_high)) in
    let place : day_in v ≡ d = two_back d (omega (arith, day_below y m d date.is_date)) in
    let form : has_pattern (codes "YYYYMMDD") v ≡ true =
    eight_digits _ _ _ _ _ _ _ _ (is_digit-last (y / 1000))
    (is_digit-last (y / 100)) (is_digit-last (y / 10)) (is_digit-last y)
    (is_digit-last (m / 10)) (is_digit-last m) (is_digit-last (d / 10)) (is_digit-last d) in
    let bound : spells_date v ≡ true =
    rw (year, month, place) (is_date-IsDate y m d date.is_date) in
    let number : day_number v ≡ day.day = rw (year, month, place) date.number in
    let same : ◌≡◌ {A = Day} (record { day = day_number v }) day =
    ap (λ n. record { day = n }) number in
    let parts : date_of day.day ≡ (y, m, d) =
    ap date_of (sym date.number) ∙ date_of-days_from_civil y m d date.is_date in
    let text : day_digits day.day ≡ v =
    ap date_text parts ∙ rw (zero_padded_four y, zero_padded_two m, zero_padded_two d) in
    rw text (judged_good v _ _ _ refl form bound ∙ ap Ok same)

-- the date text of eight digits is those digits
pub date_back : (v : List ℕ)
    → has_pattern (codes "YYYYMMDD") v ≡ true → spells_date v ≡ true → day_digits (day_number v) ≡ v
date_back v form bound =
    let marks = codes "YYYYMMDD" in
    let small = year_in-le v (digits_of_pattern marks v 0 8 form refl) in
    let date = IsDate-is_date (year_in v) (month_in v) (day_in v) small bound in
    let parts = date_of-days_from_civil (year_in v) (month_in v) (day_in v) date in
    let year = part_back marks v 0 4 form (omega arith) (omega arith) refl in
    let month = part_back marks v 4 6 form (omega arith) (omega arith) refl in
    let place = part_back marks v 6 8 form (omega arith) (omega arith) refl in
    let end : drop 8 v ≡ [] = drop_all 8 v (omega (arith, length-has_pattern marks v form)) in
    let whole : v ≡ slice_range v 0 4 ++ (slice_range v 4 6 ++ (slice_range v 6 8 ++ [])) =
    slice_then v 0 4 (omega arith) ∙ ap (λ xs. slice_range v 0 4 ++ xs)
    (slice_then v 4 6 (omega arith) ∙ ap (λ xs. slice_range v 4 6 ++ xs)
    (slice_then v 6 8 (omega arith) ∙ ap (λ xs. slice_range v 6 8 ++ xs) end)) in
    ap date_text parts
    ∙ (rw (year, month, place) (simp append_assoc (simp append-nil at (sym whole))))

pub day_is_plain : IsPlain read_day day_text (λ v. v)
day_is_plain v d e =
    let j = judged_ok
    v (has_pattern (codes "YYYYMMDD") v) (spells_date v) (record { day = day_number v }) d e in
    ap day_text (sym j.value) ∙ date_back v j.form j.bound
