-- A day of a month has two digits, which write it in both versions; and a month is read as its year
-- and its month.
use Rattle.std.proofs.Common.{◌≡◌, ◌<◌, ◌≤◌, ◌+◌, ◌/◌, ◌%◌, ℕ, List, [], ◌∷◌, true, sym, ap, ◌∙◌}
use Rattle.std.proofs.Common.{arith, codes, refl}
use Rattle.std.specs.Prelude.{Err, Ok, Result}
use Rattle.std.specs.Char.{is_ascii_digit}
use Rattle.std.proofs.lemmas.Bool.Decides.{nat_tests}
use Rattle.std.proofs.lemmas.Str.{digit_value_digit}
use Rattle.std.specs.Str.Parse.{digits_value}
use Rattle.typed_fields.specs.declared.fault.FieldFault.{FieldFault}
use Rattle.typed_fields.specs.declared.month_year.MonthYear.{MonthYear as MonthValue}
use Rattle.typed_fields.specs.Digits.{has_pattern, zero_padded}
use Rattle.typed_fields.specs.MonthYear.{month_in, read_month_year, year_in}
use Rattle.typed_fields.proofs.SpellingLemmas.{digit_bounds, judged_good, judged_ok}
use Rattle.message_tables.specs.Tables.{Spells}
use Rattle.row_values.specs.Kinds.{verdict_of}
use Rattle.sound_laws.proofs.PlainRows.{spelled}
use Rattle.sound_laws.proofs.SpelledAgain.{IsTwo, two_of}
use Rattle.value_kinds.specs.ValueKind.{DayOfMonth, MonthYear, number_of_two, spelling, spelt}
use Rattle.value_kinds.specs.ValueKind.{two_digit_text}
use Rattle.typed_fields.proofs.DigitsLemmas.{zero_padded_two}

abbrev pub IsShort : ℕ → Type 0
IsShort day = day < 100

digit_below : (d : ℕ) → is_ascii_digit (48 + d / 10) ≡ true → 48 + d / 10 ≤ 57
digit_below d h = grind (arith, nat_tests)

pub short_by : (day : ℕ) → is_ascii_digit (48 + day / 10) ≡ true → IsShort day
short_by day h = let low = digit_below day h in omega (arith, low)

pub two_texts : (day : ℕ) → IsShort day → zero_padded 2 day ≡ two_digit_text day
two_texts day short =
    let same : day / 10 % 10 ≡ day / 10 = omega (arith, short) in
    zero_padded_two day ∙ ap (λ (n : ℕ). (48 + n) ∷ (48 + day % 10) ∷ []) same

-- the number that two digits write, in both versions
pub two_value : (bytes text : List ℕ) → IsTwo bytes text → digits_value 10 text ≡ number_of_two text
two_value bytes text h =
    let d = digit_value_digit h.ten (digit_bounds h.ten h.ten_digit) in
    let e = digit_value_digit h.one (digit_bounds h.one h.one_digit) in
    let same : digits_value 10 (h.ten ∷ h.one ∷ []) ≡ number_of_two (h.ten ∷ h.one ∷ []) =
    omega (arith, d, e) in
    ap (digits_value 10) h.is ∙ same ∙ ap number_of_two (sym h.is)

-- any day is spelled in two digits
pub is_two : (bytes text : List ℕ) → verdict_of (spelling DayOfMonth bytes) ≡ Spells text
    → IsTwo bytes text
is_two bytes text h = two_of bytes text (spelled (spelling DayOfMonth bytes) text h)

-- ---- a month

abbrev pub month_of : List ℕ → MonthValue
month_of text = record { year = year_in text; month = month_in text }

-- what is spelled was read
pub was_read : {A : Type 0} (text : List ℕ) (r : Result A FieldFault)
    → verdict_of (spelt (λ _. text) r) ≡ Spells text → (x : A) × (r ≡ Ok x)
was_read text (Ok x) h = (x, refl)
was_read text (Err fault) h = absurd cc

pub record IsMonth (text : List ℕ) : Type 0 where
  pub form : has_pattern (codes "YYYYMM") text ≡ true
  pub read : read_month_year text ≡ Ok (month_of text)

pub is_month : (text : List ℕ) → verdict_of (spelling MonthYear text) ≡ Spells text → IsMonth text
unfolding spelling
is_month [] h = absurd cc
is_month (b ∷ bs) h =
    let read = was_read (b ∷ bs) (read_month_year (b ∷ bs)) h in
    let parts = judged_ok (b ∷ bs) _ _ (month_of (b ∷ bs)) read.0 read.1 in record {
      form = parts.form;
      read = judged_good (b ∷ bs) _ _ (month_of (b ∷ bs)) parts.some parts.form parts.bound;
    }
