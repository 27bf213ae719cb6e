-- A header that is carried down: its moments are cut, and all else is as it stands.
use Rattle.std.proofs.Common.{◌≡◌, ◌≤◌, ℕ, List, [], ◌∷◌, true, false, Option, Some, None, length}
use Rattle.std.proofs.Common.{refl, sym, ap, subst, ◌∙◌}
use Rattle.std.proofs.lemmas.List.{take_all}
use Rattle.std.specs.Prelude.{◌==◌, ◌&&◌, ◌||◌, Ok, if◌then◌else◌}
use Rattle.std.proofs.lemmas.Bool.{eqb-true}
use Rattle.std.specs.List.{AllByRecursion, find, slice_get}
use Rattle.std.specs.Option.{option_map}
use Rattle.std.specs.Result.{is_ok}
use Rattle.typed_fields.specs.Digits.{has_pattern}
use Rattle.typed_fields.specs.Stamp.{cut_text, read_fine}
use Rattle.field_groups.specs.Field.{Field}
use Rattle.message_tables.specs.Tables.{Said, value_at}
use Rattle.value_kinds.specs.ValueKind.{Filled, Flag, spelling}
use Rattle.row_values.specs.Kinds.{judge}
use Rattle.sound_laws.specs.Sound.{IsClear}
use Rattle.sound_laws.proofs.Each.{each_by}
use Rattle.sound_laws.proofs.ReadSound.{IsClearField}
use Rattle.sound_laws.proofs.SpelledAgain.{clear_front}
use Rattle.translation.specs.Header.{carried_down, carried_tags, head_down, type_of}
use Rattle.translation.proofs.CarriedHeader.{IsOwn, IsOwnHead, kind_at}
use Rattle.translation.specs.Going.{IsType, One as OneByte}

-- a value is carried as it stands, or cut
by_cut : (P : List ℕ → Type 0) (tag : ℕ) (value : List ℕ) → P (cut_text value) → P value
    → P (carried_down tag value)
by_cut P tag value cut whole =
    elim ((tag == 52 || tag == 122) && is_ok (read_fine value)) as (λ b.
    P (if b then cut_text value else value)) [ true ↦ cut | false ↦ whole ]

-- a value that is short is carried as it stands
pub short_stays : (tag : ℕ) (value : List ℕ) → length value ≤ 21 → value ≡ carried_down tag value
short_stays tag value short = by_cut (λ v. value ≡ v) tag value (sym (take_all 21 value short)) refl

-- the first value of a tag
pub value_down : (tag : ℕ) (fields : List Field)
    → value_at tag (head_down fields) ≡ option_map (carried_down tag) (value_at tag fields)
value_down tag [] = refl
value_down tag (field ∷ fields) =
    elim (field.0 == tag) as (λ b. (field.0 == tag) ≡ b
    → option_map (λ (f : Field). f.1) (if b then Some (field.0, carried_down field.0 field.1)
    else find (λ f. f.0 == tag) (head_down fields))
    ≡ option_map (carried_down tag) (option_map (λ (f : Field). f.1)
    (if b then Some field else find (λ f. f.0 == tag) fields))) [
      | true ↦ λ e. ap (λ (t : ℕ). Some (carried_down t field.1)) (eqb-true field.0 tag e)
      | false ↦ λ e. value_down tag fields
    ] refl

pub none_down : (tag : ℕ) (fields : List Field) → None ≡ value_at tag fields
    → None ≡ value_at tag (head_down fields)
none_down tag fields e = ap (option_map (carried_down tag)) e ∙ sym (value_down tag fields)

pub some_down : (tag : ℕ) (fields : List Field) (value carried : List ℕ)
    → Some value ≡ value_at tag fields → carried ≡ carried_down tag value
    → Some carried ≡ value_at tag (head_down fields)
some_down tag fields value carried e is =
    ap (λ v. Some v) is ∙ ap (option_map (carried_down tag)) e ∙ sym (value_down tag fields)

-- the type
pub type_some : (fields : List Field) (tag : ℕ) (value carried : List ℕ)
    → Some (tag, value) ≡ slice_get fields 0 → carried ≡ carried_down tag value
    → carried ≡ type_of (head_down fields)
type_some [] tag value carried e is = absurd cc
type_some (field ∷ fields) tag value carried e is = is ∙ ap (λ (said : Option Field). by said) e
  where
    by : Option Field → List ℕ
    by None = []
    by (Some f) = carried_down f.0 f.1

pub type_none : (fields : List Field) → None ≡ slice_get fields 0 → [] ≡ type_of (head_down fields)
type_none [] e = refl
type_none (field ∷ fields) e = absurd cc

-- which is no moment
pub type_down : (fields : List Field) → IsType (type_of fields)
    → type_of (head_down fields) ≡ type_of fields
unfolding has_pattern
type_down [] is = refl
type_down (field ∷ fields) (OneByte byte other is) =
    let P : List ℕ → Type 0 = λ v. carried_down field.0 v ≡ v in
    subst P (sym is) (by_cut (λ v. v ≡ byte ∷ []) field.0 (byte ∷ []) refl refl)

-- ---- no SOH

clear_down : (tag : ℕ) (value : List ℕ) → IsClear value → IsClear (carried_down tag value)
clear_down tag value h = by_cut IsClear tag value (clear_front 21 value h) h

pub head_clear : (fields : List Field) → AllByRecursion (IsClearField judge) fields
    → AllByRecursion (IsClearField judge) (head_down fields)
head_clear [] h = tt
head_clear (field ∷ fields) h =
    ((λ bare. clear_down field.0 field.1 (h.0 bare)), head_clear fields h.1)

-- ---- values that are their own spellings

own_moment : (tag : ℕ) (said : Said) → IsOwn Filled said
    → IsOwn Filled (option_map (carried_down tag) said)
unfolding spelling
own_moment tag None own = tt
own_moment tag (Some []) own = absurd (let e = own.0 in cc)
own_moment tag (Some (b ∷ bs)) own =
    by_cut (λ v. (spelling Filled v ≡ Ok (Some v)) × IsClear v) tag (b ∷ bs)
    (refl, clear_front 21 (b ∷ bs) own.1) (refl, own.1)

same_values : (said : Said) → option_map (λ (v : List ℕ). v) said ≡ said
same_values None = refl
same_values (Some v) = refl

pub resend_down : (fields : List Field) → value_at 97 (head_down fields) ≡ value_at 97 fields
resend_down fields = value_down 97 fields ∙ same_values (value_at 97 fields)

own_carried : (tag : ℕ) (said : Said) → IsOwn (kind_at tag) said
    → IsOwn (kind_at tag) (option_map (carried_down tag) said)
own_carried tag said =
    elim (tag == 97) as (λ b. (tag == 97) ≡ b → IsOwn (if b then Flag else Filled) said
    → IsOwn (if b then Flag else Filled) (option_map (carried_down tag) said)) [
      | true ↦ λ e own. rw (eqb-true tag 97 e, same_values said) own
      | false ↦ λ e. own_moment tag said
    ] refl

-- THE HEADER that is carried down
pub own_down : (msg_type : List ℕ) (fields : List Field) → IsOwnHead msg_type fields
    → IsOwnHead msg_type (head_down fields)
own_down msg_type fields own = record {
  kind = own.kind;
  carried = each_by _ _ (λ tag own. subst (λ (s : Said). IsOwn (kind_at tag) s)
      (sym (value_down tag fields)) (own_carried tag (value_at tag fields) own))
      carried_tags own.carried;
}
