-- The date that the code writes of a maturity is that of its month and its day.
use Rattle.std.proofs.Common.{◌≡◌, ◌∙◌, ◌+◌, ◌/◌, ◌++◌, ℕ, List, Option, Some, None, ap, option_map}
use Rattle.std.proofs.Common.{option_and_then, refl}
use Rattle.std.specs.Char.{is_ascii_digit}
use Rattle.typed_fields.specs.Digits.{zero_padded}
use Rattle.typed_fields.specs.MonthYear.{month_year_text}
use Rattle.typed_fields.specs.declared.month_year.MonthYear.{MonthYear as MonthValue}
use Rattle.field_groups.specs.Field.{Field, body_of}
use Rattle.value_kinds.specs.ValueKind.{two_digit_text, MonthYear}
use Rattle.message_tables.specs.Tables.{Verdict, Spells, Said, Tag, ◌>>=◌, text_of, value_at}
use Rattle.message_tables.specs.Content.{cell_fields}
use Rattle.row_values.specs.declared.lines.Maturity.{Maturity}
use Rattle.row_values.specs.Kinds.{Value, DayOf, judge, said}
use Rattle.row_values.specs.Maturity.{IsMaturity}
use Rattle.row_values.specs.Lines.{date_text}
use Rattle.sound_laws.proofs.ShortDays.{short_by, two_texts}
use Rattle.request_rules.specs.Rules.{date_up}
use Rattle.sound_laws.proofs.SpelledAgain.{IsTwo}
use Rattle.request_rules.proofs.DatesUp.{day_two}

said_two : (fields : List Field) (day : List ℕ) (value : Option (List ℕ))
    → Some day ≡ (value >>= (λ bytes. text_of (judge fields (DayOf 200) bytes)))
    → (bytes : List ℕ) × IsTwo bytes day
said_two fields day None h = absurd cc
said_two fields day (Some bytes) h = by (judge fields (DayOf 200) bytes) refl h
  where
    by : (v : Verdict) → judge fields (DayOf 200) bytes ≡ v → Some day ≡ text_of v
        → (bytes : List ℕ) × IsTwo bytes day
    by (Spells text) e h =
        let same : text ≡ day = cc in (bytes, day_two fields bytes day (e ∙ ap Spells same))
    by other e h = absurd cc

two_texts_of : (bytes : List ℕ) (day : ℕ) → IsTwo bytes (two_digit_text day)
    → zero_padded 2 day ≡ two_digit_text day
two_texts_of bytes day two =
    let ten : 48 + day / 10 ≡ two.ten = let is = two.is in cc in
    two_texts day (short_by day (ap is_ascii_digit ten ∙ two.ten_digit))

date_is : (fields : List Field) (month : MonthValue) (day : Option ℕ) (said_month said_day : Said)
    → (Some (month_year_text month)) ≡ said_month → option_map two_digit_text day ≡ said_day
    → said_day ≡ said fields 205 (DayOf 200)
    → option_map (λ d. month_year_text month ++ zero_padded 2 d) day ≡ date_up said_month said_day
date_is fields month None said_month said_day m d is = λ i. date_up (m i) (d i)
date_is fields month (Some day) said_month said_day m d is =
    let two = said_two fields (two_digit_text day) (value_at 205 fields) (d ∙ is) in
    ap (λ (t : List ℕ). Some (month_year_text month ++ t)) (two_texts_of two.0 day two.1)
    ∙ (λ i. date_up (m i) (d i))

some_month : (month : List ℕ) (s : Said) → Some month ≡ s → s ≡ None → ⊥
some_month month s h k = cc

date_of : (fields : List Field) (maturity : Option Maturity) → IsMaturity fields maturity
    → option_and_then date_text maturity
    ≡ date_up (said fields 200 (Value MonthYear)) (said fields 205 (DayOf 200))
date_of fields None h = ap (λ s. date_up s (said fields 205 (DayOf 200))) h.month
date_of fields (Some m) h =
    date_is fields m.month m.day (said fields 200 (Value MonthYear)) (said fields 205 (DayOf 200))
    h.month (h.day (λ none. absurd (some_month _ _ h.month none))) refl

pub date_written : (fields : List Field) (maturity : Option Maturity) → IsMaturity fields maturity
    → body_of (cell_fields (Tag 541, option_and_then date_text maturity))
    ≡ body_of (cell_fields (
      Tag 541,
      date_up (said fields 200 (Value MonthYear)) (said fields 205 (DayOf 200)),
    ))
date_written fields maturity h =
    ap (λ s. body_of (cell_fields (Tag 541, s))) (date_of fields maturity h)
