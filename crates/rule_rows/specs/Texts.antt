-- Inside: what the code reads of a text that stands in fields, and the rows by which it may.
use Rattle.std.specs.Prelude.{◌≡◌, ℕ, Bool, true, false, not, ◌&&◌, List, map, Option, Some, None}
use Rattle.std.specs.Prelude.{if◌then◌else◌}
use Rattle.std.specs.Option.{option_map}
use Rattle.std.specs.Result.{result_ok}
use Rattle.typed_fields.specs.declared.dec.Dec.{Dec}
use Rattle.typed_fields.specs.declared.number.Number.{Number as NumberValue}
use Rattle.typed_fields.specs.Dec.{dec_text, read_dec}
use Rattle.typed_fields.specs.Number.{read_number}
use Rattle.field_groups.specs.Field.{Field}
use Rattle.message_tables.specs.FirstFault.{is_passed, mark_of}
use Rattle.message_tables.specs.Plain.{is_good}
use Rattle.message_tables.specs.Tables.{Need, Lenient, Fixed, Row, Said, Table, ◌>>=◌, all_rows}
use Rattle.message_tables.specs.Tables.{code_of, row_at, value_at}
use Rattle.row_values.specs.Kinds.{Kind, TimeBeside, Value, judge}
use Rattle.sound_laws.proofs.RowsSaid.{row_of_tag}
use Rattle.sound_laws.proofs.SpelledAgain.{is_own}
use Rattle.value_kinds.specs.ValueKind.{FineStamp, Price, Qty, Reason}

-- ---- a text

-- the code that it is, if it is one byte
abbrev pub byte_of : Said → Option ℕ
byte_of said = said >>= code_of

-- the numbers that a text spells, if it spells one
abbrev pub decimal_of : Said → Option Dec
decimal_of said = said >>= (λ text. result_ok (read_dec text))

abbrev pub number_of : Said → Option NumberValue
number_of said = said >>= (λ text. result_ok (read_number text))

-- a decimal number in its canonical spelling
abbrev pub decimal_text : Said → Said
decimal_text said = option_map dec_text (decimal_of said)

-- the value of a tag, where it is of the profile of a kind
module _ (fields : List Field) where
  abbrev pub kept_by : Kind → List ℕ → Said
  kept_by kind text = if is_good (mark_of (judge fields kind text)) then Some text else None

  abbrev pub kept : ℕ → Kind → Said
  kept tag kind = value_at tag fields >>= kept_by kind

-- ---- the rows

-- rows whose values are faults where they are outside the profile
abbrev pub is_strict : Need → Bool
is_strict Lenient = false
is_strict (Fixed text) = false
is_strict need = true

abbrev pub is_unfixed : Need → Bool
is_unfixed (Fixed text) = false
is_unfixed need = true

-- kinds of texts that are their own spellings, of decimal numbers, of moments that are cut, of
-- reasons, and of values that count where they are of the profile
abbrev pub is_own_kind : Kind → Bool
is_own_kind (Value kind) = is_own kind
is_own_kind kind = false

abbrev pub is_amount : Kind → Bool
is_amount (Value Qty) = true
is_amount (Value Price) = true
is_amount kind = false

abbrev pub is_moment : Kind → Bool
is_moment (Value FineStamp) = true
is_moment kind = false

abbrev pub is_reason : Kind → Bool
is_reason (Value Reason) = true
is_reason kind = false

abbrev pub is_kept : Kind → Bool
is_kept (TimeBeside ord_type) = true
is_kept kind = is_own_kind kind

abbrev pub is_row : (Need → Bool) → (Kind → Bool) → Row Kind → Bool
is_row need kind row = need row.need && kind row.kind

-- any kind
abbrev pub is_any : Kind → Bool
is_any kind = true

-- ---- what a rule reads

-- How the code reads a field by a rule: as the text of a strict row of such kinds, or by this very
-- kind. What a rule asks besides holds or not.
pub data Reading : Type 0 where
  OfKinds : (test : Kind → Bool) (tag : ℕ) → Reading
  OfKind : (test : Kind → Bool) (kind : Kind) (tag : ℕ) → Reading
  Besides : (good : Bool) → Reading

-- a text that is its own spelling
abbrev pub Own : ℕ → Reading
Own tag = OfKinds is_own_kind tag

abbrev pub if_row : Bool → (Row Kind → Bool) → Option (Row Kind) → Bool
if_row absent test None = absent
if_row absent test (Some row) = test row

-- the row of a tag, its kind where that counts, whether it is of that sort, and whether the message
-- says something else there
abbrev pub Facts : Type 0
Facts = Option (Row Kind) × Option Kind × Bool × Bool

module _ (apart : ℕ → Bool) (table : Table Kind) where
  -- what a table has there, and what it has to have; a field may be missing where each has a row
  abbrev pub found : Reading → Facts
  found (OfKinds test tag) = (
    row_at tag (all_rows table),
    None,
    if_row (not (is_passed table tag)) (is_row is_strict test) (row_of_tag tag table.items),
    apart tag,
  )
  found (OfKind test kind tag) = (
    row_at tag (all_rows table),
    option_map (λ row. row.kind) (row_of_tag tag table.items),
    if_row false (is_row is_unfixed test) (row_of_tag tag table.items),
    apart tag,
  )
  found (Besides good) = (None, None, good, false)

  abbrev pub wanted : Reading → Facts
  wanted (OfKinds test tag) = (row_of_tag tag table.items, None, true, false)
  wanted (OfKind test kind tag) = (row_of_tag tag table.items, Some kind, true, false)
  wanted (Besides good) = (None, None, true, false)

  abbrev pub Has : Reading → Type 0
  Has reading = found reading ≡ wanted reading

  -- THE TABLE HAS what the code reads by these rules
  abbrev pub AreRead : {Rule : Type 0} → (Rule → List Reading) → List Rule → Type 0
  AreRead reading rules =
      map (λ rule. map found (reading rule)) rules ≡ map (λ rule. map wanted (reading rule)) rules
