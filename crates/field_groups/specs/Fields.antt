-- Standard: FIX 4.2, "FIX Message Format and Delivery", "Message Format" and "Field Delimiter", and
-- Data Types, data; FIX 5.0 SP2, volume 1, "FIX Tag=Value Syntax", the same parts. At most 256
-- fields is this gateway's own bound.
use Rattle.std.specs.Prelude.{◌≡◌, ℕ, ◌+◌, ◌<◌, ◌≤◌, Bool, true, false, not, nat_lt, nat_le, ◌==◌}
use Rattle.std.specs.Prelude.{◌&&◌, List, [], ◌++◌, length, take, drop, Option, Some, None}
use Rattle.std.specs.Prelude.{slice_index}
use Rattle.std.specs.List.{find, list_any, prefix_len, last_or}
use Rattle.std.specs.Option.{option_map}
use Rattle.std.specs.Char.{is_ascii_digit}
use Rattle.std.specs.Str.Parse.{digits_value}
use Rattle.field_groups.specs.declared.fault.SplitFault.{SplitFault}
use Rattle.field_groups.specs.declared.fault.SplitFault.TheVariants.{NoTag, BadTag, NoEnd}
use Rattle.field_groups.specs.declared.fault.SplitFault.TheVariants.{DataLength, TooMany}
use Rattle.field_groups.specs.Field.{Field, AreFields, body_of, is_soh, is_data, said_length}

-- the most fields of a body
abbrev pub max_fields : ℕ
max_fields = 256

-- how many digits stand at the front
abbrev pub digit_count : List ℕ → ℕ
digit_count bytes = prefix_len is_ascii_digit bytes

-- digits stand at the front, and `=` after them
unfoldable pub has_tag : List ℕ → Bool
has_tag bytes = nat_lt 0 (digit_count bytes) && (slice_index bytes (digit_count bytes) == 61)

-- the digits at the front have no leading zero, and are at most nine
unfoldable pub is_tag_good : List ℕ → Bool
is_tag_good bytes = not (slice_index bytes 0 == 48) && nat_le (digit_count bytes) 9

-- the tag that the digits at the front write
abbrev pub front_tag : List ℕ → ℕ
front_tag bytes = digits_value 10 (take (digit_count bytes) bytes)

-- what follows the digits at the front and a `=`
abbrev pub after_tag : List ℕ → List ℕ
after_tag bytes = drop (digit_count bytes + 1) bytes

-- SOH stands somewhere
abbrev pub has_soh : List ℕ → Bool
has_soh bytes = list_any is_soh bytes

-- a number is said, and SOH stands behind so many bytes (past the end stands none)
abbrev pub has_soh_after : Option ℕ → List ℕ → Bool
has_soh_after None bytes = false
has_soh_after (Some said) bytes = slice_index bytes said == 1

-- why no whole field stands at the front of what is left of a body from this place on, directly
-- behind the field before
abbrev pub NoField : ℕ → Option Field → List ℕ → SplitFault → Type 0
NoField place before left (NoTag at) = (at ≡ place) × (has_tag left ≡ false)
NoField place before left (BadTag at) =
    (at ≡ place) × (has_tag left ≡ true) × (is_tag_good left ≡ false)
NoField place before left (NoEnd at) =
    (at ≡ place) × (has_tag left ≡ true) × (is_tag_good left ≡ true)
    × (is_data before (front_tag left) ≡ false) × (has_soh (after_tag left) ≡ false)
NoField place before left (DataLength tag) =
    (tag ≡ front_tag left) × (has_tag left ≡ true) × (is_tag_good left ≡ true)
    × (is_data before (front_tag left) ≡ true)
    × (has_soh_after (said_length before) (after_tag left) ≡ false)
NoField place before left TooMany = ⊥

-- why no more fields follow after so many, the last of which is this one, where this is left of the
-- body from this place on
abbrev pub Stops : ℕ → ℕ → Option Field → List ℕ → Option SplitFault → Type 0
Stops count place before left None = left ≡ []
Stops count place before left (Some TooMany) = (count ≡ max_fields) × (0 < length left)
Stops count place before left (Some fault) =
    (count < max_fields) × (0 < length left) × NoField place before left fault

-- the body is these fields as they are written, at most 256, and then what is left, where no more
-- follow by this fault
pub record SplitsInto (body : List ℕ) (fields : List Field) (fault : Option SplitFault) : Type 0
  where
    pub left : List ℕ
    pub good : AreFields None fields
    pub at_most : length fields ≤ max_fields
    pub written : body ≡ body_of fields ++ left
    pub stopped : Stops (length fields) (length (body_of fields)) (last_or None fields) left fault

-- the value of the first field of a tag
abbrev pub value_of : ℕ → List Field → Option (List ℕ)
value_of tag fields = option_map (λ f. f.1) (find (λ f. f.0 == tag) fields)
