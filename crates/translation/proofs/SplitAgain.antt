-- The header and the content of a translation are split again into the fields that were written.
use Rattle.std.proofs.Common.{◌≡◌, ◌≤◌, ℕ, List, [], ◌∷◌, length, Some, None, true, refl}
use Rattle.std.proofs.Common.{sym, subst, arith, length-append}
use Rattle.std.specs.Prelude.{not, nat_le, ◌&&◌}
use Rattle.std.specs.List.{AllByRecursion, flat_map, list_all}
use Rattle.std.proofs.lemmas.Bool.Decides.{nat_tests}
use Rattle.field_groups.specs.Data.{is_data_tag}
use Rattle.field_groups.specs.Field.{Field, IsPlainField, AreFields, body_of}
use Rattle.field_groups.specs.Fields.{SplitsInto}
use Rattle.field_groups.proofs.Plain.{plain_again}
use Rattle.message_tables.specs.Tables.{Tag, value_at}
use Rattle.message_tables.specs.Content.{cell_fields}
use Rattle.row_values.specs.Kinds as row_kinds
use Rattle.sound_laws.proofs.Each.{◌&◌, all_true, both, each_by, each_joined, each_whole, not_true}
use Rattle.sound_laws.proofs.Good.{held}
use Rattle.sound_laws.proofs.PlainFields.{is_good_tag, Plains, AreFew, plain_field, cell_length}
use Rattle.sound_laws.proofs.PlainFields.{all_of, clear_fields}
use Rattle.sound_laws.proofs.ReadSound.{IsClearField}
use Rattle.translation.specs.Header.{type_of, carried, carried_field, carried_tags, with_content}
use Rattle.translation.specs.Going.{IsType, One as OneByte}

carried_plain : (tag : ℕ) (fields : List Field) → is_good_tag tag ≡ true
    → AllByRecursion (IsClearField row_kinds.judge) fields → Plains (carried_field fields tag)
carried_plain tag fields good clear =
    elim (value_at tag fields) as (λ value. value_at tag fields ≡ value
    → Plains (cell_fields (Tag tag, value))) [
      | None ↦ λ e. tt
      | Some text ↦ λ e.
          let a = both (nat_le 1 tag) (nat_le tag 999_999_999 && not (is_data_tag tag)) good in
          let b = both (nat_le tag 999_999_999) (not (is_data_tag tag)) a.1 in
          let bare = not_true (is_data_tag tag) b.1 in
          plain_field tag text good
          (held (IsClearField row_kinds.judge) tag fields text e clear bare) & tt
    ] refl

carried_all : (tags : List ℕ) (fields : List Field)
    → list_all is_good_tag tags ≡ true → AllByRecursion (IsClearField row_kinds.judge) fields →
    Plains (flat_map (carried_field fields) tags)
carried_all tags fields good clear = each_whole IsPlainField (carried_field fields) tags
    (each_by (λ tag. is_good_tag tag ≡ true) _ (λ tag good. carried_plain tag fields good clear)
    tags (all_true is_good_tag tags good))

carried_length : (tags : List ℕ) (fields : List Field)
    → length (flat_map (carried_field fields) tags) ≤ length tags
carried_length [] fields = omega arith
carried_length (tag ∷ tags) fields =
    let one =
    cell_length (Tag tag) (value_at tag fields) in let rest = carried_length tags fields in
    omega (
      arith,
      one,
      rest,
      length-append (carried_field fields tag) (flat_map (carried_field fields) tags),
    )

type_plain : (msg_type : List ℕ) → IsType msg_type → IsPlainField (35, msg_type)
unfolding is_data_tag
type_plain msg_type (OneByte byte other is) =
    let P : List ℕ → Type 0 = λ t. IsPlainField (35, t) in
    subst P (sym is) (plain_field 35 (byte ∷ []) refl (grind (arith, nat_tests)))

-- WHAT IS WRITTEN IS SPLIT AGAIN.
pub clear_again : (fields written : List Field)
    → AllByRecursion (IsClearField row_kinds.judge) fields
    → IsType (type_of fields) → AreFew written →
    SplitsInto (body_of (with_content fields written)) (with_content fields written) None
unfolding is_data_tag
clear_again fields written clear is fits =
    let head = carried fields in
    let tags : Plains head = carried_all carried_tags fields refl clear in
    let short : length head ≤ 7 = carried_length carried_tags fields in
    let all = each_joined IsPlainField head written tags fits.plain in
    plain_again (with_content fields written)
    (all_of (with_content fields written) (type_plain (type_of fields) is, all))
    (omega (arith, short, fits.few, length-append head written))

pub fields_again : (fields written : List Field) → AreFields None fields
    → IsType (type_of fields) → AreFew written →
    SplitsInto (body_of (with_content fields written)) (with_content fields written) None
fields_again fields written good is fits =
    clear_again fields written (clear_fields row_kinds.judge None fields good) is fits
