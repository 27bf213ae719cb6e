-- A day of a month, beside its month.
use Rattle.std.proofs.Common.{◌≡◌, ℕ, List, [], ◌∷◌, Bool, true, false, refl, sym, ap, ◌∙◌, Some}
use Rattle.std.proofs.Common.{None}
use Rattle.std.specs.Prelude.{Ok, Err, if◌then◌else◌}
use Rattle.std.specs.Option.{option_map}
use Rattle.typed_fields.specs.declared.month_year.MonthYear.{MonthYear as Month}
use Rattle.typed_fields.specs.Day.{is_date}
use Rattle.field_groups.specs.Field.{Field}
use Rattle.std.specs.List.{slice_get}
use Rattle.message_tables.specs.Tables.{Spells, Wrong, Condition, Stands, When, One, Table, ◌>>=◌}
use Rattle.message_tables.specs.Tables.{text_of, value_at, has_tag, row_at, all_rows}
use Rattle.message_tables.specs.FirstFault.{first_fault}
use Rattle.message_tables.proofs.Clean.{is_said, value_at-none}
use Rattle.value_kinds.specs.ValueKind.{DayOfMonth, MonthYear, Spelling, spelling, number_of_two}
use Rattle.value_kinds.specs.ValueKind.{text_of as spelled_text, two_digit_text}
use Rattle.row_values.specs.Kinds.{Kind, Value, DayOf, judge, verdict_of, month_at, in_month, said}
use Rattle.row_values.proofs.Marks.{number_is}
use Rattle.row_values.proofs.SaidRows.{not_none}

pub said_day : (fields : List Field) (bytes : List ℕ) (month : Month)
    → Some bytes ≡ value_at 205 fields → Some month ≡ month_at 200 fields
    → said fields 205 (DayOf 200)
    ≡ text_of (in_month (Some month) (verdict_of (spelling DayOfMonth bytes)))
unfolding judge
said_day fields bytes month at h =
    ap (λ value. value >>= (λ v.
    text_of (in_month (month_at 200 fields) (verdict_of (spelling DayOfMonth v))))) (sym at)
    ∙ ap (λ m. text_of (in_month m (verdict_of (spelling DayOfMonth bytes)))) (sym h)

pub no_day : (s : Spelling) (month : Month) → None ≡ spelled_text s
    → None ≡ text_of (in_month (Some month) (verdict_of s))
no_day (Ok (Some text)) month h = absurd cc
no_day (Ok None) month h = refl
no_day (Err fault) month h = refl

pub day_in_month : (s : Spelling) (month : Month) (day : ℕ)
    → Some (two_digit_text day) ≡ spelled_text s
    → option_map two_digit_text (if is_date month.year month.month day then Some day else None)
    ≡ text_of (in_month (Some month) (verdict_of s))
day_in_month (Ok (Some text)) month day h =
    let same : text ≡ two_digit_text day = cc in
    let e : number_of_two text ≡ day = ap number_of_two same ∙ number_is day in
    rw e (here (is_date month.year month.month day))
  where
    here : (b : Bool) → option_map two_digit_text (if b then Some day else None)
        ≡ text_of (if b then Spells text else Wrong 5)
    here true = h
    here false = refl
day_in_month (Ok None) month day h = absurd cc
day_in_month (Err fault) month day h = absurd cc

-- a month is needed where a day of it stands
abbrev pub beside_day : Condition
beside_day = (Stands 205 ∷ []) ∷ []

module _ (table : Table Kind) (fields : List Field)
    (h : first_fault judge table fields ≡ None) where
  -- where no month is said, no day is
  pub dated : (i : ℕ)
      → slice_get table.items i
      ≡ Some (One (record { tag = 200; kind = Value MonthYear; need = When beside_day }))
      → row_at 200 (all_rows table)
      ≡ Some (record { tag = 200; kind = Value MonthYear; need = When beside_day })
      → said fields 200 (Value MonthYear) ≡ None → said fields 205 (DayOf 200) ≡ None
  dated i at its none = by_day (has_tag 205 fields) refl
    where
      by_day : (stands : Bool) → has_tag 205 fields ≡ stands → said fields 205 (DayOf 200) ≡ None
      by_day true e =
          absurd (not_none _ (is_said judge table fields i
          (record { tag = 200; kind = Value MonthYear; need = When beside_day }) h at its
          (rw e refl) refl) none)
      by_day false e =
          ap (λ value. value >>= (λ bytes. text_of (judge fields (DayOf 200) bytes)))
          (value_at-none 205 fields e)
