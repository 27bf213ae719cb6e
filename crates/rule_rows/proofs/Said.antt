-- What a sound message says at the rows and groups of its table.
use Rattle.std.proofs.Common.{◌≡◌, ℕ, List, true, false, Some, None, refl, sym, ap, subst, ◌∙◌, []}
use Rattle.std.proofs.Common.{◌∷◌}
use Rattle.std.specs.Prelude.{IsSome, IfSome, is_some, ◌||◌, ◌==◌}
use Rattle.std.specs.List.{AllByRecursion}
use Rattle.std.proofs.lemmas.Bool.{eqb-true}
use Rattle.field_groups.specs.Field.{Field}
use Rattle.message_tables.specs.Tables.{Required, Row, RepeatingGroup, Message, Said, Tag, Spells}
use Rattle.message_tables.specs.Tables.{Table, said_at, lines_of, is_needed, value_at, Item, Party}
use Rattle.message_tables.specs.Tables.{Role, party_in}
use Rattle.message_tables.specs.Content.{content}
use Rattle.row_values.specs.Kinds.{Kind, judge}
use Rattle.sound_laws.specs.Sound.{IsClear, IsSaid, IsGroup, IsItem, IsSound}
use Rattle.sound_laws.proofs.RowsSaid.{row_found, row_of_tag}
use Rattle.sound_laws.proofs.ContentValues.{groups_said, is_alone, value_said}
use Rattle.rule_rows.specs.ByRules.{has_place, outline, outline_of}
use Rattle.rule_rows.proofs.Looked.{none_at}
use Rattle.rule_rows.specs.Rows.{group_at}
use Rattle.rule_rows.proofs.Items.{group_found, has_row, row_there, IsRow}

-- what is said by a canonical spelling without SOH
pub record IsSpelled (fields : List Field) (kind : Kind) (said : Said) : Type 0 where
  pub spelled : IfSome said (λ text. judge fields kind text ≡ Spells text)
  pub clear : IfSome said IsClear

pub says_nothing : (fields : List Field) (kind : Kind) → IsSpelled fields kind None
says_nothing fields kind = record { spelled = tt; clear = tt }

-- ---- a sound message

module _ (table : Table Kind) (m : Message) (sound : IsSound judge table m) where
  abbrev at : ℕ → Said
  at tag = said_at m.cells (Tag tag)

  abbrev pub fields : List Field
  fields = content table m

  pub outline_is : outline m ≡ outline_of table.items
  outline_is = λ i. record { places = sound.places i; counts = sound.counts i }

  pub row_at : (tag : ℕ) (row : Row Kind) → row_of_tag tag table.items ≡ Some row
      → IsSaid judge fields row (at tag)
  row_at tag row e =
      let P : ℕ → Type 0 = λ t. IsSaid judge fields row (at t) in
      let found = row_found (IsItem judge fields m) tag table.items row e sound.items in
      subst P found.0 found.1

  pub no_row : (tag : ℕ) → row_of_tag tag table.items ≡ None → at tag ≡ None
  no_row tag e = none_at m.cells (Tag tag)
      (ap (λ o. has_place o (Tag tag)) outline_is ∙ row_there table.items tag ∙ ap is_some e)

  -- what is said at the tag of this row, where the table has it
  pub spelled_by : (row : Row Kind) → IsRow table.items row → IsSpelled fields row.kind (at row.tag)
  spelled_by row is =
      elim (row_of_tag row.tag table.items) as (λ o. row_of_tag row.tag table.items ≡ o
      → IfSome o (λ other. other ≡ row) → IsSpelled fields row.kind (at row.tag)) [
        | None ↦ λ e is. subst (λ (said : Said). IsSpelled fields row.kind said)
            (sym (no_row row.tag e)) (says_nothing fields row.kind)
        | Some other ↦ λ e is.
            let said = row_at row.tag row (e ∙ ap (λ (r : Row Kind). Some r) is) in
            record { spelled = said.spelled; clear = said.clear }
      ] refl is

  -- a row that the table has, and each message says
  pub is_there : (row : Row Kind) → (need : row.need ≡ Required)
      → has_row table.items row.tag ≡ true → IsRow table.items row → IsSome (at row.tag)
  is_there row need there is =
      elim (row_of_tag row.tag table.items) as (λ o. row_of_tag row.tag table.items ≡ o
      → is_some o ≡ true → IfSome o (λ other. other ≡ row) → IsSome (at row.tag)) [
        | None ↦ λ e there is. absurd (cc there)
        | Some other ↦ λ e there is.
            (row_at row.tag row (e ∙ ap (λ (r : Row Kind). Some r) is)).needed
            (ap (λ n. is_needed n fields) need)
      ] refl there is

  -- the value of a tag that one row alone writes
  pub value_is : (tag : ℕ) → is_alone tag table.items ≡ true → value_at tag fields ≡ at tag
  value_is tag alone =
      value_said judge m tag table.items alone (groups_said judge fields m table.items sound.items)

  -- the lines of a group of the table
  pub group_is : (count : ℕ) (group : RepeatingGroup Kind)
      → group_at count table.items ≡ Some group → IsGroup judge group (lines_of count m.groups)
  group_is count group e =
      let P : ℕ → Type 0 = λ c. IsGroup judge group (lines_of c m.groups) in
      let found = group_found (IsItem judge fields m) count table.items group e sound.items in
      subst P found.0 found.1

  -- the party of a role that has a place
  role_in : (some : List (Item Kind)) (role : ℕ) → has_place (outline_of some) (Role role) ≡ true
      → AllByRecursion (IsItem judge fields m) some
      → said_at m.cells (Role role) ≡ party_in role (lines_of 453 m.groups)
  role_in [] role has said = absurd cc
  role_in (Party first ∷ some) role has said =
      elim (first == role) as (λ b. (first == role) ≡ b
      → (b || has_place (outline_of some) (Role role)) ≡ true
      → said_at m.cells (Role role) ≡ party_in role (lines_of 453 m.groups)) [
        | true ↦ λ e h.
            subst (λ (r : ℕ). said_at m.cells (Role r) ≡ party_in r (lines_of 453 m.groups))
            (eqb-true first role e) said.0
        | false ↦ λ e h. role_in some role h said.1
      ] refl has
  role_in (item ∷ some) role has said = role_in some role has said.1

  pub role_is : (role : ℕ) → has_place (outline_of table.items) (Role role) ≡ true
      → said_at m.cells (Role role) ≡ party_in role (lines_of 453 m.groups)
  role_is role has = role_in table.items role has sound.items
