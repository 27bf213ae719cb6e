-- Standard: FIX 4.2, "FIX Message Format and Delivery", "Message Format" and "Field Delimiter", and
-- Data Types, data; FIX 5.0 SP2, volume 1, "FIX Tag=Value Syntax", the same parts. Tags of at most
-- nine digits are this gateway's own bound.
use Rattle.std.specs.Prelude.{◌≡◌, ℕ, ◌≤◌, ◌==◌, Bool, true, false, not, List, [], ◌∷◌, ◌++◌}
use Rattle.std.specs.Prelude.{length, Option, Some, None, if◌then◌else◌}
use Rattle.std.specs.Fmt.{decimal}
use Rattle.std.specs.List.{flat_map, list_any}
use Rattle.field_groups.specs.HeadValues.{number_in}
use Rattle.field_groups.specs.Data.{is_data_pair, is_data_tag}

-- a tag and a value
abbrev pub Field : Type 0
Field = ℕ × List ℕ

-- the byte that ends a field
abbrev pub is_soh : ℕ → Bool
is_soh byte = byte == 1

-- the field as it is written: its tag in digits, `=`, its value, SOH
unfoldable pub field_bytes : Field → List ℕ
field_bytes f = decimal f.0 ++ 61 ∷ f.1 ++ 1 ∷ []

-- the fields as they are written, one after another
abbrev pub body_of : List Field → List ℕ
body_of fs = flat_map field_bytes fs

-- A field of this tag is raw data where its length field stands directly before it. Anywhere else
-- its tag is like any other.
abbrev pub is_data : Option Field → ℕ → Bool
is_data None tag = false
is_data (Some before) tag = is_data_pair before.0 tag

-- how many bytes of raw data the field before says
abbrev pub said_length : Option Field → Option ℕ
said_length None = None
said_length (Some before) = number_in before.1

-- a number is said, and it is this one
abbrev pub says : Option ℕ → ℕ → Bool
says None n = false
says (Some said) n = said == n

-- a value: raw data of as many bytes as the field before says, or else bytes with no SOH
abbrev pub is_value : Option Field → Field → Bool
is_value before f =
    if is_data before f.0 then says (said_length before) (length f.1) else not (list_any is_soh f.1)

-- A field, directly behind this one or at the front: a tag is positive and is written without
-- leading zeros (TagNum).
pub record IsField (before : Option Field) (f : Field) : Type 0 where
  pub positive : 1 ≤ f.0
  pub nine_digits : f.0 ≤ 999_999_999
  pub value : is_value before f ≡ true

-- fields, the first of them directly behind this one or at the front
abbrev pub AreFields : Option Field → List Field → Type 0
AreFields before [] = Unit {0}
AreFields before (f ∷ fs) = IsField before f × AreFields (Some f) fs

-- a field of no raw bytes: it is a field wherever it stands
pub record IsPlainField (f : Field) : Type 0 where
  pub positive : 1 ≤ f.0
  pub nine_digits : f.0 ≤ 999_999_999
  pub no_data : is_data_tag f.0 ≡ false
  pub no_soh : list_any is_soh f.1 ≡ false
