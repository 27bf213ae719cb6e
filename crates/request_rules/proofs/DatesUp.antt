-- A month and its day as a date, and the month beside it.
use Rattle.std.proofs.Common.{◌≡◌, ℕ, List, [], ◌∷◌, ◌++◌, length, take, true, false, Option}
use Rattle.std.proofs.Common.{Some, None, refl, sym, ap, ◌∙◌, codes, arith}
use Rattle.std.proofs.lemmas.List.{take_at}
use Rattle.std.specs.Prelude.{IfSome, Ok, if◌then◌else◌}
use Rattle.std.specs.Char.{is_ascii_digit}
use Rattle.std.specs.Str.Parse.{digits_value}
use Rattle.std.specs.Result.{result_ok}
use Rattle.typed_fields.specs.declared.month_year.MonthYear.{MonthYear as MonthValue}
use Rattle.typed_fields.specs.Digits.{has_pattern, number_of}
use Rattle.typed_fields.specs.Day.{is_date, day_number}
use Rattle.typed_fields.specs.MonthYear.{read_month_year, year_in, month_in}
use Rattle.typed_fields.proofs.DigitsLemmas.{length-has_pattern}
use Rattle.typed_fields.proofs.SpellingLemmas.{judged_good}
use Rattle.field_groups.specs.Field.{Field}
use Rattle.value_kinds.specs.ValueKind.{MonthYear, Day, DayOfMonth, Spelling, spelling, spelt}
use Rattle.value_kinds.specs.ValueKind.{number_of_two}
use Rattle.message_tables.specs.Tables.{Verdict, Spells, Wrong, Said, ◌>>=◌, text_of, value_at}
use Rattle.row_values.specs.Kinds.{Value, DayOf, MonthBeside, judge, verdict_of, in_month, month_at}
use Rattle.row_values.specs.Kinds.{if_spelled, month_beside}
use Rattle.sound_laws.proofs.Each.{both}
use Rattle.sound_laws.proofs.ShortDays.{is_month, is_two, month_of, two_value}
use Rattle.sound_laws.proofs.SpelledAgain.{IsTwo}
use Rattle.request_rules.specs.Rules.{date_up}

-- ---- a day

-- a day that its month has
abbrev HasDay : Option MonthValue → List ℕ → Type 0
HasDay month day =
    IfSome month (λ m. is_date m.year m.month (number_of_two day) ≡ true)

pub day_in : (month : Option MonthValue) (v : Verdict) (day : List ℕ)
    → in_month month v ≡ Spells day → (v ≡ Spells day) × HasDay month day
day_in None v day h = (h, tt)
day_in (Some month) (Spells other) day h =
    elim (is_date month.year month.month (number_of_two other)) as
    (λ good. is_date month.year month.month (number_of_two other) ≡ good
    → (if good then Spells other else Wrong 5) ≡ Spells day → (Spells other ≡ Spells day)
    × (is_date month.year month.month (number_of_two day) ≡ true)) [
      | true ↦ λ e h. let same : other ≡ day = cc in (h, rw (← same) e)
      | false ↦ λ e h. absurd (cc h)
    ] refl h
day_in other v day h = absurd cc

-- a day of FIX 4.2 has two digits
pub day_value : (fields : List Field) (day : List ℕ) → judge fields (DayOf 200) day ≡ Spells day
    → digits_value 10 day ≡ number_of_two day
unfolding judge
day_value fields day h = two_value day day
    (is_two day day (day_in (month_at 200 fields) (verdict_of (spelling DayOfMonth day)) day h).0)

pub day_two : (fields : List Field) (bytes text : List ℕ)
    → judge fields (DayOf 200) bytes ≡ Spells text → IsTwo bytes text
unfolding judge
day_two fields bytes text h = is_two bytes text
    (day_in (month_at 200 fields) (verdict_of (spelling DayOfMonth bytes)) text h).0

-- ---- a month

pub month_length : (fields : List Field) (text : List ℕ)
    → judge fields (Value MonthYear) text ≡ Spells text → length text ≡ 6
unfolding judge
month_length fields text h = length-has_pattern (codes "YYYYMM") text (is_month text h).form

-- ---- a date

date_by : (month day : List ℕ) → has_pattern (codes "YYYYMM") month ≡ true → IsTwo day day
    → is_date (year_in month) (month_in month) (number_of_two day) ≡ true
    → verdict_of (spelling Day (month ++ day)) ≡ Spells (month ++ day)
unfolding spelling has_pattern number_of
date_by (y1 ∷ y2 ∷ y3 ∷ y4 ∷ m1 ∷ m2 ∷ []) (d1 ∷ d2 ∷ []) form two good =
    let p1 = both (is_ascii_digit y1) _ form in
    let p2 = both (is_ascii_digit y2) _ p1.1 in
    let p3 = both (is_ascii_digit y3) _ p2.1 in
    let p4 = both (is_ascii_digit y4) _ p3.1 in
    let p5 = both (is_ascii_digit m1) _ p4.1 in
    let p6 = both (is_ascii_digit m2) _ p5.1 in
    let is = two.is in
    let d1_digit : is_ascii_digit d1 ≡ true = let ten : d1 ≡ two.ten = cc in rw ten two.ten_digit in
    let d2_digit : is_ascii_digit d2 ≡ true = let one : d2 ≡ two.one = cc in rw one two.one_digit in
    let month = y1 ∷ y2 ∷ y3 ∷ y4 ∷ m1 ∷ m2 ∷ [] in
    let text = y1 ∷ y2 ∷ y3 ∷ y4 ∷ m1 ∷ m2 ∷ d1 ∷ d2 ∷ [] in
    let marks : has_pattern (codes "YYYYMMDD") text ≡ true =
    rw (p1.0, p2.0, p3.0, p4.0, p5.0, p6.0, d1_digit, d2_digit) refl in
    let date : is_date (year_in month) (month_in month) (digits_value 10 (d1 ∷ d2 ∷ [])) ≡ true =
    rw (two_value (d1 ∷ d2 ∷ []) (d1 ∷ d2 ∷ []) two) good in
    ap (λ r. verdict_of (spelt (λ _. text) r))
    (judged_good text _ _ (record { day = day_number text }) refl marks date)
date_by (y1 ∷ y2 ∷ y3 ∷ y4 ∷ m1 ∷ m2 ∷ []) day form two good = absurd (let is = two.is in cc)
date_by text day form two good =
    absurd (omega (arith, length-has_pattern (codes "YYYYMM") text form))

module _ (fields42 fields50 : List Field) (month day : List ℕ) where
  -- a date of FIX 5.0 SP2
  pub date_spelled : value_at 200 fields42 ≡ Some month
      → judge fields42 (Value MonthYear) month ≡ Spells month
      → judge fields42 (DayOf 200) day ≡ Spells day
      → judge fields50 (Value Day) (month ++ day) ≡ Spells (month ++ day)
  unfolding judge
  date_spelled at spelled in_it =
      let m = is_month month spelled in
      let said : month_at 200 fields42 ≡ Some (month_of month) =
      ap (λ (value : Said). value >>= (λ t. result_ok (read_month_year t))) at
      ∙ ap result_ok m.read in
      let d = day_in (Some (month_of month)) (verdict_of (spelling DayOfMonth day)) day
      (sym (ap (λ (o : Option MonthValue). in_month o (verdict_of (spelling DayOfMonth day))) said)
      ∙ in_it) in
      date_by month day m.form (is_two day day d.0) d.1

-- the month is that of the date
pub month_first : (month day : List ℕ) → length month ≡ 6 → take 6 (month ++ day) ≡ month
month_first month day long = take_at month day 6 long

spells_ok : (spelled : Spelling) (text : List ℕ)
    → verdict_of spelled ≡ Spells text → if_spelled spelled ≡ Spells text
spells_ok (Ok (Some other)) text h = h
spells_ok other text h = absurd cc

no_month : verdict_of (spelling MonthYear []) ≡ Spells [] → ⊥
unfolding spelling
no_month h = cc

module _ (fields42 fields50 : List Field) where
  -- the month of FIX 5.0 SP2, beside the date
  pub month_spelled : (month day : Said) → value_at 541 fields50 ≡ date_up month day
      → IfSome month (λ text. judge fields42 (Value MonthYear) text ≡ Spells text)
      → IfSome (date_up month day) (λ text. judge fields50 (Value Day) text ≡ Spells text)
      → IfSome month (λ text. judge fields50 (MonthBeside 541) text ≡ Spells text)
  unfolding judge
  month_spelled None day at h d = tt
  month_spelled (Some []) day at h d = absurd (no_month h)
  month_spelled (Some (b ∷ month)) None at h d =
      ap (λ (date : Said). month_beside
      (date >>= (λ text. text_of (verdict_of (spelling Day text)))) (b ∷ month)) at
      ∙ spells_ok (spelling MonthYear (b ∷ month)) (b ∷ month) h
  month_spelled (Some (b ∷ month)) (Some day) at h d =
      ap (λ (date : Said). month_beside
      (date >>= (λ text. text_of (verdict_of (spelling Day text)))) (b ∷ month)) at
      ∙ ap (λ (v : Verdict). month_beside (text_of v) (b ∷ month)) d
      ∙ ap Spells (month_first (b ∷ month) day (month_length fields42 (b ∷ month) h))
