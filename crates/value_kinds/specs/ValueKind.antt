-- Own: the kinds of values of which the tables of messages speak, by the data types of FIX 4.2 and
-- FIX 5.0 SP2, and what bytes are as a value of a kind.
use Rattle.std.specs.Prelude.{ℕ, ℤ, ◌+◌, ◌-◌, ◌*◌, ◌/◌, ◌%◌, Bool, true, false, List, [], ◌∷◌}
use Rattle.std.specs.Prelude.{length, nat_le, not, ◌==◌, ◌&&◌, if◌then◌else◌, Some, None, Result, Ok, Err}
use Rattle.std.specs.declared.option.Option.{Option}
use Rattle.std.specs.Int.{is_negative}
use Rattle.std.specs.Option.{option_map}
use Rattle.std.specs.Result.{result_ok}
use Rattle.std.specs.Char.{is_ascii_digit, is_ascii_uppercase}
use Rattle.std.specs.List.{list_any, list_all}
use Rattle.std.specs.Str.{bytes_eq}
use Rattle.typed_fields.specs.declared.fault.FieldFault.{FieldFault}
use Rattle.typed_fields.specs.declared.fault.FieldFault.TheVariants.{Empty, Form, Range}
use Rattle.typed_fields.specs.Number.{read_number, number_text}
use Rattle.typed_fields.specs.Flag.{read_flag}
use Rattle.typed_fields.specs.Dec.{read_dec, dec_text}
use Rattle.typed_fields.specs.Stamp.{cut_text, read_fine, read_stamp}
use Rattle.typed_fields.specs.Day.{read_day}
use Rattle.typed_fields.specs.MonthYear.{read_month_year}

pub data ValueKind : Type 0 where
  -- any bytes, and at least one
  Filled : ValueKind
  -- 1 to 128 bytes
  Id : ValueKind
  -- 1 to 2,048 bytes
  Text : ValueKind
  -- one byte, whichever
  OneByte : ValueKind
  -- one of these bytes
  Code : (listed : List ℕ) → ValueKind
  -- one of these bytes, where any other value is out of range
  Known : (listed : List ℕ) → ValueKind
  -- some of these bytes, with single spaces between them
  Codes : (listed : List ℕ) → ValueKind
  -- one of these words
  Word : (listed : List (List ℕ)) → ValueKind
  -- three capital letters
  Currency : ValueKind
  Flag : ValueKind
  -- 0 to 1,000,000,000
  Number : ValueKind
  -- a number of at most 9,999
  Reason : ValueKind
  -- a decimal number that is not negative
  Qty : ValueKind
  -- a decimal number
  Price : ValueKind
  Stamp : ValueKind
  -- a moment in the fine form, which counts to its milliseconds
  FineStamp : ValueKind
  Day : ValueKind
  MonthYear : ValueKind
  -- one or two digits
  DayOfMonth : ValueKind

-- What reading the bytes of a value gives: the one canonical spelling of the value, or nothing
-- where it is outside the profile; or why the bytes are no value of the kind.
abbrev pub Spelling : Type 0
Spelling = Result (Option (List ℕ)) FieldFault

abbrev pub formed : Bool → List ℕ → Spelling
formed good bytes = if good then Ok (Some bytes) else Err Form

abbrev pub within : ℕ → List ℕ → Spelling
within most bytes = if nat_le (length bytes) most then Ok (Some bytes) else Err Range

abbrev pub listed_word : Bool → List ℕ → Option (List ℕ)
listed_word listed bytes = if listed then Some bytes else None

abbrev pub known : Bool → List ℕ → Spelling
known listed bytes = if listed then Ok (Some bytes) else Err Range

-- whether bytes are one byte, which is among these
abbrev pub is_code : List ℕ → List ℕ → Bool
is_code listed (byte ∷ []) = list_any (λ code. code == byte) listed
is_code listed bytes = false

-- whether each part between spaces has a byte; the part before these bytes has one, or has none yet
abbrev pub are_spaced : Bool → List ℕ → Bool
are_spaced begun [] = begun
are_spaced begun (byte ∷ bytes) =
    if byte == 32 then begun && are_spaced false bytes else are_spaced true bytes

-- whether these bytes are listed codes with single spaces between them, where a code is to come, or
-- has just come
abbrev pub are_codes : List ℕ → Bool → List ℕ → Bool
are_codes listed come [] = come
are_codes listed true (byte ∷ bytes) = byte == 32 && are_codes listed false bytes
are_codes listed false (byte ∷ bytes) =
    list_any (λ code. code == byte) listed && are_codes listed true bytes

-- values with single spaces between them; one that is no listed code is outside the profile
abbrev pub codes_among : List ℕ → List ℕ → Spelling
codes_among listed bytes =
    if are_spaced false bytes
    then Ok (listed_word (are_codes listed false bytes) bytes) else Err Form

-- a value that was read, by a spelling of it
abbrev pub spelt : {A : Type 0} → (A → List ℕ) → Result A FieldFault → Spelling
spelt text (Ok value) = Ok (Some (text value))
spelt text (Err fault) = Err fault

abbrev pub if_in_range : {A : Type 0} → (A → Bool) → Result A FieldFault → Result A FieldFault
if_in_range good (Ok value) = if good value then Ok value else Err Range
if_in_range good (Err fault) = Err fault

-- the most that a reason may be
abbrev pub most_reason : ℕ
most_reason = 9999

-- one or two digits, as two
abbrev pub two_digits : List ℕ → Spelling
two_digits (one ∷ []) = if is_ascii_digit one then Ok (Some (48 ∷ one ∷ [])) else Err Form
two_digits (ten ∷ one ∷ []) = formed (is_ascii_digit ten && is_ascii_digit one) (ten ∷ one ∷ [])
two_digits bytes = Err Form

-- the number that two digits write
abbrev pub number_of_two : List ℕ → ℕ
number_of_two (ten ∷ one ∷ []) = 10 * (ten - 48) + (one - 48)
number_of_two bytes = 0

-- the spellings of a code, which is one byte, and of a day of a month, which is two digits
abbrev pub code_text : ℕ → List ℕ
code_text code = code ∷ []

abbrev pub two_digit_text : ℕ → List ℕ
two_digit_text n = (48 + n / 10) ∷ (48 + n % 10) ∷ []

-- What bytes are as a value of a kind. Days, months and moments have one spelling each; that of a
-- moment in the fine form is cut.
unfoldable pub spelling : ValueKind → List ℕ → Spelling
spelling kind [] = Err Empty
spelling Filled bytes = Ok (Some bytes)
spelling Id bytes = within 128 bytes
spelling Text bytes = within 2048 bytes
spelling OneByte bytes = formed (length bytes == 1) bytes
spelling (Code listed) bytes = Ok (listed_word (is_code listed bytes) bytes)
spelling (Known listed) bytes = known (is_code listed bytes) bytes
spelling (Codes listed) bytes = codes_among listed bytes
spelling (Word listed) bytes = Ok (listed_word (list_any (bytes_eq bytes) listed) bytes)
spelling Currency bytes = formed ((length bytes == 3) && list_all is_ascii_uppercase bytes) bytes
spelling Flag bytes = spelt (λ _. bytes) (read_flag bytes)
spelling Number bytes = spelt number_text (read_number bytes)
spelling Reason bytes =
    spelt number_text (if_in_range (λ n. nat_le n.value most_reason) (read_number bytes))
spelling Qty bytes = spelt dec_text (if_in_range (λ d. not (is_negative d.units)) (read_dec bytes))
spelling Price bytes = spelt dec_text (read_dec bytes)
spelling Stamp bytes = spelt (λ _. bytes) (read_stamp bytes)
spelling FineStamp bytes = spelt (λ _. cut_text bytes) (read_fine bytes)
spelling Day bytes = spelt (λ _. bytes) (read_day bytes)
spelling MonthYear bytes = spelt (λ _. bytes) (read_month_year bytes)
spelling DayOfMonth bytes = two_digits bytes

-- the canonical spelling of a value of a kind, where it is of the profile
abbrev pub text_of : Spelling → Option (List ℕ)
text_of (Ok text) = text
text_of (Err fault) = None

unfoldable pub spelled : ValueKind → List ℕ → Option (List ℕ)
spelled kind bytes = text_of (spelling kind bytes)

-- the units of 10^-8 that a decimal number spells
unfoldable pub units_of_text : List ℕ → Option ℤ
units_of_text bytes = option_map (λ d. d.units) (result_ok (read_dec bytes))
