-- The rows and groups among the items of a table, and the shapes of what a rule makes of them: a
-- row that is carried, an item where the source has a place, the lines of a group.
use Rattle.std.proofs.Common.{◌≡◌, ℕ, List, [], ◌∷◌, Bool, true, false, Option, Some, None, refl}
use Rattle.std.proofs.Common.{sym, ap, subst, ◌∙◌}
use Rattle.std.proofs.lemmas.Bool.{eqb-true}
use Rattle.std.specs.Option.{option_map}
use Rattle.std.specs.Prelude.{◌||◌, ◌&&◌, ◌==◌, is_some, if◌then◌else◌, IfSome}
use Rattle.std.specs.List.{AllByRecursion}
use Rattle.message_tables.specs.Tables.{Need, Required, Optional, Lenient, Place, Tag, Row, Item}
use Rattle.message_tables.specs.Tables.{One, Lines, RepeatingGroup}
use Rattle.row_values.specs.Kinds.{Kind, Value}
use Rattle.sound_laws.proofs.Each.{each_at}
use Rattle.sound_laws.proofs.RowsSaid.{row_of_tag}
use Rattle.rule_rows.specs.ByRules.{At, Grouped, has_any, has_group, has_place, outline_of}
use Rattle.rule_rows.specs.Rows.{group_at}
use Rattle.rule_rows.proofs.Made.{target_if, target_of}

abbrev pub has_row : List (Item Kind) → ℕ → Bool
has_row items tag = is_some (row_of_tag tag items)

-- where the items have the row of a tag, it is this one
abbrev pub IsRow : List (Item Kind) → Row Kind → Type 0
IsRow items row = IfSome (row_of_tag row.tag items) (λ other. other ≡ row)

-- ---- places are those of rows

pub row_there : (items : List (Item Kind)) (tag : ℕ)
    → has_place (outline_of items) (Tag tag) ≡ has_row items tag
row_there [] tag = refl
row_there (One row ∷ rest) tag =
    elim (row.tag == tag) as (λ b. (b || has_place (outline_of rest) (Tag tag))
    ≡ is_some (if b then Some row else row_of_tag tag rest))
    [ true ↦ refl | false ↦ row_there rest tag ]
row_there (item ∷ rest) tag = row_there rest tag

pub group_there : (items : List (Item Kind)) (count : ℕ)
    → has_group (outline_of items) count ≡ is_some (group_at count items)
group_there [] count = refl
group_there (Lines group ∷ rest) count =
    elim (group.count == count) as (λ b. (b || has_group (outline_of rest) count)
    ≡ is_some (if b then Some group else group_at count rest))
    [ true ↦ refl | false ↦ group_there rest count ]
group_there (item ∷ rest) count = group_there rest count

-- a group that is found has its count, and what holds of each item holds of it
pub group_found : (P : Item Kind → Type 0) (count : ℕ) (items : List (Item Kind))
    (group : RepeatingGroup Kind) → group_at count items ≡ Some group → AllByRecursion P items
    → (group.count ≡ count) × P (Lines group)
group_found P count [] group e each = absurd cc
group_found P count (Lines first ∷ items) group e each =
    elim (first.count == count) as (λ b. (first.count == count) ≡ b
    → (if b then Some first else group_at count items) ≡ Some group
    → (group.count ≡ count) × P (Lines group)) [
      | true ↦ λ same e.
          let is : first ≡ group = cc in
          subst (λ (g : RepeatingGroup Kind). (g.count ≡ count) × P (Lines g)) is
          (eqb-true first.count count same, each.0)
      | false ↦ λ same e. group_found P count items group e each.1
    ] refl e
group_found P count (item ∷ items) group e each = group_found P count items group e each.1

pub count_is : (count : ℕ) (items : List (Item Kind)) (group : RepeatingGroup Kind)
    → group_at count items ≡ Some group → group.count ≡ count
count_is count items group e = (group_found (λ item. Unit {0}) count items group e
    (each_at (λ item. Unit {0}) items (λ i item at. tt))).0

-- ---- ROWS THAT CAN BE CARRIED: their values are judged by themselves

abbrev pub is_value : Kind → Bool
is_value (Value kind) = true
is_value kind = false

abbrev pub is_plain : Need → Bool
is_plain Required = true
is_plain Optional = true
is_plain Lenient = true
is_plain need = false

abbrev pub can_go : Row Kind → Bool
can_go row = is_value row.kind && is_plain row.need

abbrev pub may_go : Option (Row Kind) → Bool
may_go None = true
may_go (Some row) = can_go row

-- ---- THE SHAPES of what a rule makes

-- what a row becomes, and what a group does
abbrev pub turned : (Row Kind → Row Kind) → Option (Row Kind) → Option (Item Kind)
turned turn row = option_map (λ row. One (turn row)) row

abbrev pub turned_group : (RepeatingGroup Kind → RepeatingGroup Kind)
    → Option (RepeatingGroup Kind) → Option (Item Kind)
turned_group turn group = option_map (λ group. Lines (turn group)) group

abbrev pub item_if : Bool → Item Kind → Option (Item Kind)
item_if true item = Some item
item_if false item = None

module _ (items : List (Item Kind)) where
  or_false : (b : Bool) → (b || false) ≡ b
  or_false true = refl
  or_false false = refl

  -- one place is had where it is had
  pub has_one : (place : Place)
      → has_any (outline_of items) (place ∷ []) ≡ has_place (outline_of items) place
  has_one place = or_false (has_place (outline_of items) place)

  pub turned_made : (turn : Row Kind → Row Kind) (from to : ℕ)
      → ((row : Row Kind) → (turn row).tag ≡ to)
      → option_map target_of (turned turn (row_of_tag from items))
      ≡ target_if (has_any (outline_of items) (Tag from ∷ [])) (At (Tag to))
  turned_made turn from to tag =
      (elim (row_of_tag from items) as (λ row. option_map target_of (turned turn row)
      ≡ target_if (is_some row) (At (Tag to)))
      [ None ↦ refl | Some row ↦ ap (λ t. Some (At (Tag t))) (tag row) ])
      ∙ ap (λ b. target_if b (At (Tag to))) (sym (has_one (Tag from) ∙ row_there items from))

  pub turned_group_made : (turn : RepeatingGroup Kind → RepeatingGroup Kind) (count : ℕ)
      → ((group : RepeatingGroup Kind) → (turn group).count ≡ group.count)
      → option_map target_of (turned_group turn (group_at count items))
      ≡ target_if (has_group (outline_of items) count) (Grouped count)
  turned_group_made turn count same =
      (elim (group_at count items) as (λ group. group_at count items ≡ group
      → option_map target_of (turned_group turn group)
      ≡ target_if (is_some group) (Grouped count)) [
        | None ↦ λ e. refl
        | Some group ↦ λ e.
            ap (λ n. Some (Grouped n)) (same group ∙ count_is count items group e)
      ] refl) ∙ ap (λ b. target_if b (Grouped count)) (sym (group_there items count))

-- an item where this holds
pub item_made : (b : Bool) (item : Item Kind)
    → option_map target_of (item_if b item) ≡ target_if b (target_of item)
item_made true item = refl
item_made false item = refl
