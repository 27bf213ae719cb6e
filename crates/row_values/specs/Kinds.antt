-- Standard: FIX 4.2 and FIX 5.0 SP2, volume 6, the fields and their values; MaturityDay (205) of
-- FIX 4.2 is a day of the month of MaturityMonthYear (200).
-- What a value is beside the profile: the reasons are those of SessionRejectReason(373).
use Rattle.std.specs.Prelude.{ℕ, Bool, true, false, not, ◌||◌, List, [], take, codes, Some, None}
use Rattle.std.specs.Prelude.{Ok, Err, if◌then◌else◌, unwrap_or}
use Rattle.std.specs.declared.option.Option.{Option}
use Rattle.std.specs.Option.{option_map}
use Rattle.std.specs.Result.{result_ok}
use Rattle.std.specs.Str.{bytes_eq}
use Rattle.typed_fields.specs.declared.fault.FieldFault.{FieldFault}
use Rattle.typed_fields.specs.declared.fault.FieldFault.TheVariants.{Empty, Form, Range}
use Rattle.typed_fields.specs.declared.month_year.MonthYear.{MonthYear as MonthValue}
use Rattle.typed_fields.specs.MonthYear.{read_month_year}
use Rattle.typed_fields.specs.Day.{is_date}
use Rattle.field_groups.specs.Field.{Field}
use Rattle.message_tables.specs.Tables.{Verdict, Spells, Outside, Wrong, Said, Judge, Need, Row}
use Rattle.message_tables.specs.Tables.{◌>>=◌, flag_of, is_listed, text_of, value_at}
use Rattle.value_kinds.specs.ValueKind.{ValueKind, OneByte, Code, Day, MonthYear, DayOfMonth}
use Rattle.value_kinds.specs.ValueKind.{Spelling, is_code, spelling, number_of_two}

-- the kinds of values: those of the single fields, and those in which other fields have a part
pub data Kind : Type 0 where
  Value : (kind : ValueKind) → Kind
  -- one byte, which counts where it is listed
  Byte : (listed : List ℕ) → Kind
  -- one or two digits, a day of the month in the field of this tag
  DayOf : (month : ℕ) → Kind
  -- a month, which is that of the date where another field says a date
  MonthBeside : (date : ℕ) → Kind
  -- TimeInForce, of which 7, at the close, counts only beside an OrdType of market (1) or limit (2)
  TimeBeside : (ord_type : ℕ) → Kind
  -- ApplVerID, of which 9 is FIX 5.0 SP2
  Version : Kind

-- 4 Tag specified without a value, 6 Incorrect data format for value, 5 Value is incorrect (out of
-- range) for this tag
abbrev pub reason_of : FieldFault → ℕ
reason_of Empty = 4
reason_of Form = 6
reason_of Range = 5

abbrev pub verdict_of : Spelling → Verdict
verdict_of (Ok (Some text)) = Spells text
verdict_of (Ok None) = Outside
verdict_of (Err fault) = Wrong (reason_of fault)

-- a value that has at least one byte
abbrev pub filled : List ℕ → Verdict → Verdict
filled [] verdict = Wrong 4
filled bytes verdict = verdict

-- a value that is outside the profile where it is not spelled well
abbrev pub if_spelled : Spelling → Verdict
if_spelled (Ok (Some text)) = Spells text
if_spelled spelling = Outside

-- a value that is outside the profile where this does not hold
abbrev pub counted : Bool → Verdict → Verdict
counted true verdict = verdict
counted counts (Wrong reason) = Wrong reason
counted counts verdict = Outside

-- ---- days and months beside each other

-- the month in the field of a tag, where one can be read
abbrev pub month_at : ℕ → List Field → Option MonthValue
month_at tag fields = value_at tag fields >>= (λ text. result_ok (read_month_year text))

-- a day that its month has; where no month can be read, the month is at fault
abbrev pub in_month : Option MonthValue → Verdict → Verdict
in_month (Some month) (Spells day) =
    if is_date month.year month.month (number_of_two day) then Spells day else Wrong 5
in_month month day = day

-- the first six digits of YYYYMMDD
abbrev pub month_in_date : List ℕ → List ℕ
month_in_date date = take 6 date

-- the date that the field of a tag says
abbrev pub date_at : ℕ → List Field → Said
date_at tag fields = value_at tag fields >>= (λ text. text_of (verdict_of (spelling Day text)))

abbrev pub month_beside : Said → List ℕ → Verdict
month_beside (Some date) bytes = Spells (month_in_date date)
month_beside None bytes = if_spelled (spelling MonthYear bytes)

-- ---- values

abbrev pub is_at_close : List ℕ → Bool
is_at_close bytes = bytes_eq bytes (codes "7")

-- THE JUDGE of a value beside the other fields of its message; 18 Invalid or unsupported
-- application version
unfoldable pub judge : Judge Kind
judge fields (Value kind) bytes = verdict_of (spelling kind bytes)
judge fields (Byte listed) bytes =
    counted (is_code listed bytes) (verdict_of (spelling OneByte bytes))
judge fields (DayOf month) bytes =
    in_month (month_at month fields) (verdict_of (spelling DayOfMonth bytes))
judge fields (MonthBeside date) bytes =
    filled bytes (month_beside (date_at date fields) bytes)
judge fields (TimeBeside ord_type) bytes =
    counted (not (is_at_close bytes) || is_listed (codes "12") (value_at ord_type fields))
    (verdict_of (spelling (Code (codes "01234567")) bytes))
judge fields Version bytes = if bytes_eq bytes (codes "9") then Spells bytes else Wrong 18

-- ---- rows

abbrev pub row : Need → ℕ → ValueKind → Row Kind
row need tag kind = record { tag = tag; kind = Value kind; need = need }

-- what the field of a tag says, as a value of a kind
abbrev pub said : List Field → ℕ → Kind → Said
said fields tag kind = value_at tag fields >>= (λ bytes. text_of (judge fields kind bytes))

-- whether the fields repeat what was sent before, PossResend (97)
abbrev pub resend_of : List Field → Bool
resend_of fields = unwrap_or (option_map flag_of (value_at 97 fields)) false
