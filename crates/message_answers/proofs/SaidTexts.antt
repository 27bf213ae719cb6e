-- The ids and the texts that the fields of a body say have no SOH, and are not too long.
use Rattle.std.proofs.Common.{◌≡◌, ◌≤◌, ℕ, Bool, true, false, List, [], ◌∷◌, length, Option, Some}
use Rattle.std.proofs.Common.{None, Ok, Err, IfSome, refl, arith, if◌then◌else◌}
use Rattle.std.specs.Prelude.{nat_le, ◌&&◌}
use Rattle.std.specs.Char.{is_ascii_digit}
use Rattle.std.specs.Int.{is_in_range}
use Rattle.std.specs.List.{AllByRecursion, list_all, list_any}
use Rattle.std.specs.Str.Parse.{digits_value}
use Rattle.std.proofs.lemmas.Bool.{leb-true}
use Rattle.typed_fields.specs.declared.fault.FieldFault.TheVariants.{Range}
use Rattle.field_groups.specs.Data.{is_data_tag}
use Rattle.field_groups.specs.Field.{Field, AreFields, is_soh}
use Rattle.field_groups.specs.HeadValues.{number_in}
use Rattle.message_tables.specs.Tables.{Cell, Message, Said, Tag, ◌>>=◌, said_at, text_of, value_at}
use Rattle.order_meaning.specs.declared.refusal.Refusal.{Refusal}
use Rattle.value_kinds.specs.ValueKind.{Id, Text, spelling}
use Rattle.row_values.specs.Amounts.{number_if}
use Rattle.row_values.specs.Kinds.{Value, judge, verdict_of}
use Rattle.sound_laws.proofs.Each.{not_true}
use Rattle.sound_laws.proofs.Good.{held}
use Rattle.sound_laws.proofs.ReadSound.{IsClearField}
use Rattle.report_rules.specs.Down.{IsId}
use Rattle.reject_rules.specs.Laws.{HasNoSoh, HasTexts, IsBounded, IsWord, most_id}
use Rattle.event_decisions.specs.Body.{first_value, reading_of, type_of}
use Rattle.event_decisions.proofs.Bodies.{bodies_are_read}
use Rattle.message_answers.specs.Message.{is_business, refusal_in}

-- fields whose values have no SOH, but where they are raw data
abbrev pub AreClear : List Field → Type 0
AreClear fields = AllByRecursion (IsClearField judge) fields

-- an id that can be written, which is not too long
pub record IsShortId (id : List ℕ) : Type 0 where
  pub is : IsId id
  pub short : length id ≤ most_id

module _ (fields : List Field) where
  id_of : (bytes : List ℕ) → HasNoSoh bytes
      → IfSome (text_of (judge fields (Value Id) bytes)) IsShortId
  unfolding judge spelling
  id_of [] clear = tt
  id_of (b ∷ bs) clear = by (nat_le (length (b ∷ bs)) 128) refl refl
    where
      by : (t : Bool) → nat_le (length (b ∷ bs)) 128 ≡ t
          → judge [] (Value Id) (b ∷ bs)
          ≡ verdict_of (if t then Ok (Some (b ∷ bs)) else Err Range)
          → IfSome (text_of (verdict_of (if t then Ok (Some (b ∷ bs)) else Err Range))) IsShortId
      by true e same = record { is = (same, clear); short = leb-true (length (b ∷ bs)) 128 e }
      by false e same = tt

  text_said_of : (bytes : List ℕ) → HasNoSoh bytes
      → IfSome (text_of (judge fields (Value Text) bytes)) HasNoSoh
  unfolding judge spelling
  text_said_of [] clear = tt
  text_said_of (b ∷ bs) clear = by (nat_le (length (b ∷ bs)) 2048)
    where
      by : (t : Bool)
          → IfSome (text_of (verdict_of (if t then Ok (Some (b ∷ bs)) else Err Range))) HasNoSoh
      by true = clear
      by false = tt

  module _ (clear : AreClear fields) (tag : ℕ) (bare : is_data_tag tag ≡ false) where
    -- AN ID at a tag
    pub id_at : IfSome (value_at tag fields >>= (λ bytes. text_of (judge fields (Value Id) bytes)))
        IsShortId
    id_at = by (value_at tag fields) refl
      where
        by : (value : Option (List ℕ)) → value_at tag fields ≡ value
            → IfSome (value >>= (λ bytes. text_of (judge fields (Value Id) bytes))) IsShortId
        by None e = tt
        by (Some bytes) e = id_of bytes (held (IsClearField judge) tag fields bytes e clear bare)

    -- A TEXT at a tag
    pub text_at : IfSome
        (value_at tag fields >>= (λ bytes. text_of (judge fields (Value Text) bytes))) HasNoSoh
    text_at = by (value_at tag fields) refl
      where
        by : (value : Option (List ℕ)) → value_at tag fields ≡ value
            → IfSome (value >>= (λ bytes. text_of (judge fields (Value Text) bytes))) HasNoSoh
        by None e = tt
        by (Some bytes) e =
            text_said_of bytes (held (IsClearField judge) tag fields bytes e clear bare)

-- ---- a refusal

pub record IsToldWell (r : Refusal) : Type 0 where
  pub bounded : IsBounded r
  pub texts : HasTexts r

number_word : (value : List ℕ) → IsWord (number_in value)
unfolding number_in
number_word value = by (is_in_range 1 10 (length value)) (list_all is_ascii_digit value)
    (nat_le (digits_value 10 value) 1_000_000_000) refl
  where
    by : (a b c : Bool) → nat_le (digits_value 10 value) 1_000_000_000 ≡ c
        → IsWord (if a && (b && c) then Some (digits_value 10 value) else None)
    by true true true e =
        let most = leb-true (digits_value 10 value) 1_000_000_000 e in omega (arith, most)
    by true b c e = tt
    by false b c e = tt

pub numbers_words : (cells : List Cell) (tag : ℕ) → IsWord (number_if cells tag)
numbers_words cells tag = by (said_at cells (Tag tag))
  where
    by : (said : Said) → IsWord (said >>= number_in)
    by None = tt
    by (Some text) = number_word text

short_if : (id : Said) → IfSome id IsShortId → IfSome id (λ id. length id ≤ most_id)
short_if None h = tt
short_if (Some id) h = h.short

clear_if : (id : Said) → IfSome id IsShortId → IfSome id HasNoSoh
clear_if None h = tt
clear_if (Some id) h = h.is.1

-- WHAT A REFUSAL SAYS, where its id and its text are as those of fields
pub told_well : (m : Message) → IfSome (said_at m.cells (Tag 379)) IsShortId
    → IfSome (said_at m.cells (Tag 58)) HasNoSoh → IsToldWell (refusal_in m)
told_well m id text = record {
  bounded = record {
    tag = numbers_words m.cells 371;
    reason = numbers_words m.cells (if is_business m then 380 else 373);
    id = short_if (said_at m.cells (Tag 379)) id;
  };
  texts = record { id = clear_if (said_at m.cells (Tag 379)) id; text = text };
}

-- ---- the type

first_clear : (fields : List Field) → AreFields None fields → HasNoSoh (first_value fields)
first_clear [] good = refl
first_clear (f ∷ fs) good = not_true (list_any is_soh f.1) good.0.value

-- THE TYPE of a body has no SOH.
pub type_clear : (body : List ℕ) → HasNoSoh (type_of body)
type_clear body = first_clear (reading_of body).fields (bodies_are_read body).good
