-- Inside: the kind that a kind of the code is, and what its judgement says.
use Rattle.std.specs.Prelude.{Bool, true, false, map, Result, Ok, Err, is_some}
use Rattle.typed_fields.specs.declared.fault.FieldFault.{FieldFault}
use Rattle.value_kinds.specs.declared.value_kind.ValueKind.{ValueKind as CodeKind}
use Rattle.value_kinds.specs.declared.value_kind.ValueKind.TheVariants as kinds
use Rattle.value_kinds.specs.ValueKind.{ValueKind, Filled, Id, Text, OneByte, Code, Known, Codes}
use Rattle.value_kinds.specs.ValueKind.{Word, Currency, Flag, Number, Reason, Qty, Price, Stamp}
use Rattle.value_kinds.specs.ValueKind.{FineStamp, Day, MonthYear, DayOfMonth, Spelling}

abbrev pub value_kind_of : CodeKind → ValueKind
value_kind_of kinds.Filled = Filled
value_kind_of kinds.Id = Id
value_kind_of kinds.Text = Text
value_kind_of kinds.OneByte = OneByte
value_kind_of (kinds.Code listed) = Code listed.now
value_kind_of (kinds.Known listed) = Known listed.now
value_kind_of (kinds.Codes listed) = Codes listed.now
value_kind_of (kinds.Word words) = Word (map (λ word. word.now) words.now)
value_kind_of kinds.Currency = Currency
value_kind_of kinds.Flag = Flag
value_kind_of kinds.Number = Number
value_kind_of kinds.Reason = Reason
value_kind_of kinds.Qty = Qty
value_kind_of kinds.Price = Price
value_kind_of kinds.Stamp = Stamp
value_kind_of kinds.FineStamp = FineStamp
value_kind_of kinds.Day = Day
value_kind_of kinds.MonthYear = MonthYear
value_kind_of kinds.DayOfMonth = DayOfMonth

-- whether a value is of the profile, or why it is none
abbrev pub judged : Spelling → Result Bool FieldFault
judged (Ok text) = Ok (is_some text)
judged (Err fault) = Err fault

-- whether a value was judged to be of the profile
abbrev pub is_good : Result Bool FieldFault → Bool
is_good (Ok good) = good
is_good (Err fault) = false

-- whether the canonical spelling of each value of a kind is that value
abbrev pub is_verbatim : ValueKind → Bool
is_verbatim Filled = true
is_verbatim Id = true
is_verbatim Text = true
is_verbatim (Codes listed) = true
is_verbatim (Word listed) = true
is_verbatim Currency = true
is_verbatim kind = false

-- whether each value of a kind is one byte
abbrev pub is_byte_kind : ValueKind → Bool
is_byte_kind OneByte = true
is_byte_kind (Code listed) = true
is_byte_kind (Known listed) = true
is_byte_kind kind = false
