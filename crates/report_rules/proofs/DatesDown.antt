-- The month and the day of a date.
use Rattle.std.proofs.Common.{◌≡◌, ℕ, List, [], ◌∷◌, take, Bool, true, false, Option, Some, None}
use Rattle.std.proofs.Common.{refl, sym, ap, subst, ◌∙◌, codes, arith, option_map}
use Rattle.std.specs.Prelude.{IsSome, IfSome, drop, Ok, Err, ◌&&◌, ◌||◌, if◌then◌else◌}
use Rattle.std.specs.Result.{result_ok}
use Rattle.std.specs.Str.Parse.{digits_value}
use Rattle.typed_fields.specs.declared.month_year.MonthYear.{MonthYear as MonthValue}
use Rattle.typed_fields.specs.Digits.{has_pattern, number_of}
use Rattle.typed_fields.specs.Day.{day_number, is_date, read_day, spells_date}
use Rattle.typed_fields.specs.MonthYear.{read_month_year, year_in, month_in}
use Rattle.typed_fields.proofs.SpellingLemmas.{judged_ok}
use Rattle.field_groups.specs.Field.{Field}
use Rattle.value_kinds.specs.ValueKind.{MonthYear, Day, DayOfMonth, Spelling, spelling}
use Rattle.value_kinds.specs.ValueKind.{number_of_two, spelled as spelled_of}
use Rattle.value_kinds.specs.ValueKind.{text_of as spelled_text}
use Rattle.message_tables.specs.Tables.{Spells, Wrong, Said, ◌>>=◌, has_tag, text_of}
use Rattle.message_tables.specs.Tables.{value_at}
use Rattle.message_tables.proofs.Clean.{stands}
use Rattle.row_values.specs.Kinds.{Value, DayOf, MonthBeside, filled, if_spelled, in_month, judge}
use Rattle.row_values.specs.Kinds.{month_beside, verdict_of}
use Rattle.rows_fix50.specs.Header.{month_by}
use Rattle.rows_fix50.specs.Maturity.{IsDate}
use Rattle.rows_fix50.proofs.Dates as dates
use Rattle.sound_laws.proofs.PlainRows.{spelled}
use Rattle.sound_laws.proofs.ShortDays.{is_month, is_two, month_of, two_value, was_read}

-- ---- a date

is_date_of : (date : List ℕ) → verdict_of (spelling Day date) ≡ Spells date → IsDate date
unfolding spelled_of
is_date_of date h = dates.is_date date date (ap spelled_text (spelled (spelling Day date) date h))

-- what says a text spells it
told : (s : Spelling) (text : List ℕ) → spelled_text s ≡ Some text → verdict_of s ≡ Spells text
told (Ok (Some other)) text h = cc
told (Ok None) text h = absurd cc
told (Err fault) text h = absurd cc

two_of_date : (date : List ℕ) → IsDate date
    → verdict_of (spelling DayOfMonth (drop 6 date)) ≡ Spells (drop 6 date)
unfolding spelled_of
two_of_date date is = told (spelling DayOfMonth (drop 6 date)) (drop 6 date) is.day

month_of_date : (date : List ℕ) → IsDate date
    → verdict_of (spelling MonthYear (take 6 date)) ≡ Spells (take 6 date)
unfolding spelled_of
month_of_date date is = told (spelling MonthYear (take 6 date)) (take 6 date) is.month

-- the day of a date is that of its last two digits
pub day_value : (fields : List Field) (date : List ℕ)
    → judge fields (Value Day) date ≡ Spells date
    → number_of_two (drop 6 date) ≡ digits_value 10 (drop 6 date)
unfolding judge
day_value fields date h =
    sym (two_value (drop 6 date) (drop 6 date)
    (is_two (drop 6 date) (drop 6 date) (two_of_date date (is_date_of date h))))

-- ---- a month

filled_spelled : (text : List ℕ) (s : Spelling) → filled text (if_spelled s) ≡ Spells text
    → verdict_of s ≡ Spells text
filled_spelled (b ∷ bs) (Ok (Some other)) h = h
filled_spelled text s h = absurd cc

-- ---- the day of a month

date_good : (date : List ℕ) → verdict_of (spelling Day date) ≡ Spells date
    → spells_date date ≡ true
unfolding spelling
date_good [] h = absurd cc
date_good (b ∷ bs) h =
    let read = was_read (b ∷ bs) (read_day (b ∷ bs)) h in
    (judged_ok (b ∷ bs) (has_pattern (codes "YYYYMMDD") (b ∷ bs)) (spells_date (b ∷ bs))
    (record { day = day_number (b ∷ bs) }) read.0 read.1).bound

day_there : (date : List ℕ) → IsDate date → spells_date date ≡ true
    → is_date (year_in (take 6 date)) (month_in (take 6 date)) (number_of_two (drop 6 date)) ≡ true
unfolding number_of
day_there (y1 ∷ y2 ∷ y3 ∷ y4 ∷ m1 ∷ m2 ∷ d1 ∷ d2 ∷ []) is good =
    let date = y1 ∷ y2 ∷ y3 ∷ y4 ∷ m1 ∷ m2 ∷ d1 ∷ d2 ∷ [] in
    let two = is_two (d1 ∷ d2 ∷ []) (d1 ∷ d2 ∷ []) (two_of_date date is) in
    ends (two_value (d1 ∷ d2 ∷ []) (d1 ∷ d2 ∷ []) two) good
  where
    ends : digits_value 10 (d1 ∷ d2 ∷ []) ≡ number_of_two (d1 ∷ d2 ∷ [])
        → spells_date (y1 ∷ y2 ∷ y3 ∷ y4 ∷ m1 ∷ m2 ∷ d1 ∷ d2 ∷ []) ≡ true
        → is_date (year_in (y1 ∷ y2 ∷ y3 ∷ y4 ∷ m1 ∷ m2 ∷ []))
        (month_in (y1 ∷ y2 ∷ y3 ∷ y4 ∷ m1 ∷ m2 ∷ [])) (number_of_two (d1 ∷ d2 ∷ [])) ≡ true
    ends same good =
        ap (is_date (year_in (y1 ∷ y2 ∷ y3 ∷ y4 ∷ m1 ∷ m2 ∷ []))
        (month_in (y1 ∷ y2 ∷ y3 ∷ y4 ∷ m1 ∷ m2 ∷ []))) (sym same) ∙ good
day_there date is good = absurd (omega (arith, is.eight))

module _ (before after : List Field) where
  -- the day of a date, in the month of it
  pub day_spelled : (date : List ℕ) → judge before (Value Day) date ≡ Spells date
      → value_at 200 after ≡ Some (take 6 date)
      → judge after (DayOf 200) (drop 6 date) ≡ Spells (drop 6 date)
  unfolding judge
  day_spelled date h at =
      let is = is_date_of date h in
      let text = drop 6 date in
      let said = ap (λ (value : Said). value >>= (λ t. result_ok (read_month_year t))) at
      ∙ ap result_ok (is_month (take 6 date) (month_of_date date is)).read in
      ap (λ (o : Option MonthValue). in_month o (verdict_of (spelling DayOfMonth text))) said
      ∙ ap (in_month (Some (month_of (take 6 date)))) (two_of_date date is)
      ∙ ap (λ (b : Bool). if b then Spells text else Wrong 5)
      (day_there date is (date_good date h))

  -- the month beside a date
  pub month_spelled : (date month : Said) → value_at 541 before ≡ date
      → IfSome date (λ text. judge before (Value Day) text ≡ Spells text)
      → month ≡ month_by date month
      → IfSome month (λ text. judge before (MonthBeside 541) text ≡ Spells text)
      → IfSome month (λ text. judge after (Value MonthYear) text ≡ Spells text)
  unfolding judge
  month_spelled date None at d is h = tt
  month_spelled None (Some month) at d is h =
      filled_spelled month (spelling MonthYear month)
      (sym (ap (λ (v : Said). filled month (month_beside
      (v >>= (λ text. text_of (verdict_of (spelling Day text)))) month)) at) ∙ h)
  month_spelled (Some date) (Some month) at d is h =
      let same : month ≡ take 6 date = cc in
      let P : List ℕ → Type 0 = λ t. verdict_of (spelling MonthYear t) ≡ Spells t in
      subst P (sym same) (month_of_date date (is_date_of date d))

-- a month stands where a day does
pub only_test : (b : Bool) → ((b && true) || false) ≡ true → b ≡ true
only_test true h = refl
only_test false h = absurd cc

pub month_there : (after : List Field) (date month : Said) → month ≡ month_by date month
    → value_at 205 after ≡ option_map (drop 6) date
    → has_tag 205 after ≡ true → IsSome month
month_there after (Some date) month is at h = let P : Said → Type 0 = λ s. IsSome s in
    subst P (sym is) refl
month_there after None month is at h =
    let s = stands 205 after h in
    let not : Some s.value ≡ None = sym s.first ∙ at in
    absurd cc
