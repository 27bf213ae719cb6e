-- Standard: FIX 4.2, "FIX Message Format and Delivery"; FIX 5.0 SP2, "FIX Tag=Value Syntax".
--
-- The fields of a body, as a function of its bytes. They are those into which it splits.
use Rattle.std.specs.Prelude.{ℕ, suc, zero, ◌+◌, Bool, true, false, not, List, [], ◌∷◌, length}
use Rattle.std.specs.Prelude.{take}
use Rattle.std.specs.Prelude.{drop, take_while, unwrap_or, Option, Some, None}
use Rattle.std.specs.Option.{option_or}
use Rattle.field_groups.specs.declared.fault.SplitFault.{SplitFault}
use Rattle.field_groups.specs.declared.fault.SplitFault.TheVariants.{NoTag, BadTag, NoEnd}
use Rattle.field_groups.specs.declared.fault.SplitFault.TheVariants.{DataLength, TooMany}
use Rattle.field_groups.specs.Field.{Field, is_data, is_soh, said_length}
use Rattle.field_groups.specs.Fields.{max_fields, has_tag, is_tag_good, front_tag, after_tag}
use Rattle.field_groups.specs.Fields.{digit_count, has_soh, has_soh_after}

-- the whole fields at the front of a body, and the fault that stopped them, if any
pub record Reading : Type 0 where
  pub fields : List Field
  pub fault : Option SplitFault

-- why no whole field stands at the front of what is left of a body from this place on, directly
-- behind the field before
abbrev pub tag_fault : Bool → Bool → ℕ → Option SplitFault
tag_fault false good place = Some (NoTag place)
tag_fault true false place = Some (BadTag place)
tag_fault true true place = None

-- a value has an end, or this is its fault
abbrev pub fault_unless : Bool → SplitFault → Option SplitFault
fault_unless true fault = None
fault_unless false fault = Some fault

abbrev pub value_fault : Bool → Option Field → List ℕ → ℕ → Option SplitFault
value_fault true before left place = fault_unless
    (has_soh_after (said_length before) (after_tag left)) (DataLength (front_tag left))
value_fault false before left place = fault_unless (has_soh (after_tag left)) (NoEnd place)

abbrev pub front_fault : ℕ → Option Field → List ℕ → Option SplitFault
front_fault place before left = option_or (tag_fault (has_tag left) (is_tag_good left) place)
    (value_fault (is_data before (front_tag left)) before left place)

-- the value at the front: as many bytes of raw data as the field before says, or all up to SOH
abbrev pub front_value : Bool → Option Field → List ℕ → List ℕ
front_value true before left = take (unwrap_or (said_length before) 0) (after_tag left)
front_value false before left = take_while (λ byte. not (is_soh byte)) (after_tag left)

abbrev pub front_field : Option Field → List ℕ → Field
front_field before left =
    (front_tag left, front_value (is_data before (front_tag left)) before left)

-- how many bytes the field at the front has, with its `=` and its SOH
abbrev pub front_length : List ℕ → Field → ℕ
front_length left field = digit_count left + 1 + length field.1 + 1

abbrev pub behind : Field → Reading → Reading
behind field reading = record { fields = field ∷ reading.fields; fault = reading.fault }

-- at most so many fields of what is left of a body from this place on
abbrev pub read_from : ℕ → ℕ → Option Field → List ℕ → Reading
read_from room place before [] = record { fields = []; fault = None }
read_from zero place before (byte ∷ left) = record { fields = []; fault = Some TooMany }
read_from (suc room) place before (byte ∷ left) =
    elim (front_fault place before (byte ∷ left)) [
      | Some fault ↦ record { fields = []; fault = Some fault }
      | None ↦
          let field = front_field before (byte ∷ left) in
          let taken = front_length (byte ∷ left) field in
          behind field
          (read_from room (place + taken) (Some field) (drop taken (byte ∷ left)))
    ]

-- THE FIELDS OF A BODY
unfoldable pub reading_of : List ℕ → Reading
reading_of body = read_from max_fields 0 None body

abbrev pub fields_of : List ℕ → List Field
fields_of body = (reading_of body).fields

abbrev pub first_value : List Field → List ℕ
first_value [] = []
first_value (field ∷ fields) = field.1

-- MsgType(35), which is the first field of a body
abbrev pub type_of : List ℕ → List ℕ
type_of body = first_value (fields_of body)
