-- What a header that is carried says is its own canonical spelling, where the fields that it was
-- read of are at no fault.
use Rattle.std.proofs.Common.{◌≡◌, ℕ, List, Some, None, true, false, Ok, Err, refl, ap, subst, ◌∙◌}
use Rattle.std.proofs.Common.{arith, sym}
use Rattle.std.specs.Prelude.{IfSome, not, ◌==◌, if◌then◌else◌}
use Rattle.std.specs.List.{AllByRecursion}
use Rattle.std.proofs.lemmas.Bool.Decides.{nat_tests}
use Rattle.field_groups.specs.Data.{is_data_tag}
use Rattle.field_groups.specs.Field.{Field}
use Rattle.message_tables.specs.Tables.{Optional, Table, Said, all_rows, is_one_of, row_at}
use Rattle.message_tables.specs.Tables.{value_at}
use Rattle.message_tables.specs.FirstFault.{allowed, beyond, first_fault, mark_of, wrong}
use Rattle.value_kinds.specs.ValueKind.{ValueKind, Filled, Flag, Spelling, spelling}
use Rattle.row_values.specs.Kinds.{Kind, Value, judge, row, verdict_of}
use Rattle.sound_laws.specs.Sound.{IsClear, IsSaid}
use Rattle.sound_laws.proofs.Each.{all_true, each_two, not_true}
use Rattle.sound_laws.proofs.Good.{held, IsGood, all_good}
use Rattle.sound_laws.proofs.ReadSound.{IsClearField}
use Rattle.sound_laws.proofs.RowsSaid.{optional_said}
use Rattle.sound_laws.proofs.SpelledAgain.{is_own, own_bytes}
use Rattle.translation.specs.Header.{carried_tags}
use Rattle.translation.specs.Going.{IsType, One as OneByte}

-- what a translation says at the row of a tag of its header
abbrev pub head_value : List ℕ → List Field → ℕ → Said
head_value msg_type fields tag =
    if tag == 35 then Some msg_type
    else (if is_one_of carried_tags tag then value_at tag fields else None)

-- a value that is its own canonical spelling
abbrev pub IsOwn : ValueKind → Said → Type 0
IsOwn kind said = IfSome said (λ v. (spelling kind v ≡ Ok (Some v)) × IsClear v)

pub own_said : (all : List Field) (tag : ℕ) (kind : ValueKind) (said : Said)
    → IsOwn kind said → IsSaid judge all (row Optional tag kind) said
unfolding judge
own_said all tag kind None own = optional_said all tag (Value kind) None tt tt
own_said all tag kind (Some text) own =
    optional_said all tag (Value kind) (Some text) (ap verdict_of own.0) own.1

-- the kind of a field of the header that is carried
abbrev pub kind_at : ℕ → ValueKind
kind_at tag = if tag == 97 then Flag else Filled

-- the header's values, each its own spelling
pub record IsOwnHead (msg_type : List ℕ) (fields : List Field) : Type 0 where
  pub kind : IsOwn Filled (Some msg_type)
  pub carried : AllByRecursion (λ tag. IsOwn (kind_at tag) (value_at tag fields)) carried_tags

-- a table has the rows of the header that is carried
abbrev pub HasHeader : Table Kind → Type 0
HasHeader table = AllByRecursion
    (λ tag. row_at tag (all_rows table) ≡ Some (row Optional tag (kind_at tag))) carried_tags

own_kind : (tag : ℕ) → is_own (kind_at tag) ≡ true
own_kind tag = elim (tag == 97) as (λ b. is_own (if b then Flag else Filled) ≡ true) [
  | true ↦ refl
  | false ↦ refl
]

spells_own : (kind : ValueKind) (v : List ℕ) (tag : ℕ) (s : Spelling)
    → is_own kind ≡ true → spelling kind v ≡ s
    → wrong (tag, allowed Optional (mark_of (verdict_of s))) ≡ None
    → beyond (tag, allowed Optional (mark_of (verdict_of s))) ≡ None → spelling kind v ≡ Ok (Some v)
spells_own kind v tag (Ok (Some text)) own e w b =
    e ∙ ap (λ (x : List ℕ). Ok (Some x)) (own_bytes kind v own text e)
spells_own kind v tag (Ok None) own e w b = absurd cc
spells_own kind v tag (Err fault) own e w b = absurd cc

module _ (table : Table Kind) (fields : List Field) (good : first_fault judge table fields ≡ None)
    (clear : AllByRecursion (IsClearField judge) fields) where
  head_own : (tag : ℕ) → not (is_data_tag tag) ≡ true
      → row_at tag (all_rows table) ≡ Some (row Optional tag (kind_at tag))
      → IsOwn (kind_at tag) (value_at tag fields)
  unfolding judge
  head_own tag bare its =
      let kind = kind_at tag in
      elim (value_at tag fields) as (λ value. value_at tag fields ≡ value → IsOwn kind value) [
        | None ↦ λ e. tt
        | Some v ↦ λ e.
            let g = held (IsGood judge table fields) tag fields v e
            (all_good judge table fields good) in
            let w = rw its at g.0 in let b = rw its at g.1 in (
              spells_own kind v tag (spelling kind v) (own_kind tag) refl w b,
              held (IsClearField judge) tag fields v e clear (not_true _ bare),
            )
      ] refl

  -- THE HEADER of fields at no fault
  pub head_is_own : (msg_type : List ℕ) → IsType msg_type → HasHeader table
      → IsOwnHead msg_type fields
  unfolding is_data_tag spelling
  head_is_own msg_type (OneByte byte other is) has = record {
    kind = subst (λ (v : List ℕ). IsOwn Filled (Some v)) (sym is) (refl, grind (arith, nat_tests));
    carried = each_two (λ tag. not (is_data_tag tag) ≡ true) _ _ head_own carried_tags
        (all_true (λ tag. not (is_data_tag tag)) carried_tags refl) has;
  }
