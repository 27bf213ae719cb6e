-- The value of a tag in the content of a message is what the message says there.
use Rattle.std.proofs.Common.{◌≡◌, ℕ, List, [], ◌∷◌, ◌++◌, find, option_map, Option, Some, None}
use Rattle.std.proofs.Common.{Bool, true, false, refl, ◌∙◌}
use Rattle.std.specs.Prelude.{◌==◌, ◌||◌, ◌&&◌, not, if◌then◌else◌}
use Rattle.std.specs.List.{AllByRecursion, flat_map, list_any}
use Rattle.field_groups.specs.Field.{Field}
use Rattle.message_tables.specs.Tables.{Judge, Row, RepeatingGroup, Item, One, Party, Lines, Tag}
use Rattle.message_tables.specs.Tables.{Said, Message, or_else, value_at, is_one_of, tags_of}
use Rattle.message_tables.specs.Tables.{said_at, lines_of, groups_of}
use Rattle.message_tables.specs.Content.{cell_fields, group_fields, item_fields}
use Rattle.sound_laws.specs.Sound.{IsGroup, IsItem}
use Rattle.sound_laws.proofs.Each.{at_equal, each_back, each_front, either, not_true, same_number}
use Rattle.sound_laws.proofs.Stages.{group_of, value_none}

-- whether fields of a tag may stand in what an item writes
abbrev pub writes : {Kind : Type 0} → ℕ → Item Kind → Bool
writes tag (One row) = row.tag == tag
writes tag (Party role) = false
writes tag (Lines group) = group.count == tag || is_one_of (tags_of group.rows) tag

abbrev pub is_row : {Kind : Type 0} → Item Kind → Bool
is_row (One row) = true
is_row item = false

-- one row alone writes a tag
abbrev pub is_alone : {Kind : Type 0} → ℕ → List (Item Kind) → Bool
is_alone tag [] = false
is_alone tag (item ∷ items) =
    if writes tag item then is_row item && not (list_any (writes tag) items) else is_alone tag items

pub or_none : (o : Option (List ℕ)) → or_else o None ≡ o
or_none None = refl
or_none (Some x) = refl

pub value_at-append : (tag : ℕ) (xs ys : List Field)
    → value_at tag (xs ++ ys) ≡ or_else (value_at tag xs) (value_at tag ys)
value_at-append tag [] ys = refl
value_at-append tag (x ∷ xs) ys =
    elim (x.0 == tag) as (λ b.
    option_map (λ (f : Field). f.1) (if b then Some x else find (λ f. f.0 == tag) (xs ++ ys))
    ≡ or_else (option_map (λ (f : Field). f.1)
    (if b then Some x else find (λ f. f.0 == tag) xs)) (value_at tag ys))
    [ true ↦ refl | false ↦ value_at-append tag xs ys ]

pub cell_value : (t : ℕ) (said : Said) → value_at t (cell_fields (Tag t, said)) ≡ said
cell_value t None = refl
cell_value t (Some text) = rw (same_number t) refl

module _ {Kind : Type 0} (judge : Judge Kind) where
  -- the lines of a group
  abbrev pub GroupSaid : Message → RepeatingGroup Kind → Type 0
  GroupSaid m group = IsGroup judge group (lines_of group.count m.groups)

  -- the groups of a sound message
  pub groups_said : (fields : List Field) (m : Message) (items : List (Item Kind))
      → AllByRecursion (IsItem judge fields m) items →
      AllByRecursion (GroupSaid m) (flat_map groups_of items)
  groups_said fields m [] h = tt
  groups_said fields m (Lines group ∷ items) h = (h.0, groups_said fields m items h.1)
  groups_said fields m (item ∷ items) h = groups_said fields m items h.1

  module _ (m : Message) where
    pub row_value : (tag : ℕ) (row : Row Kind)
        → (row.tag == tag) ≡ false → value_at tag (item_fields m (One row)) ≡ None
    row_value tag row other =
        elim (said_at m.cells (Tag row.tag)) as (λ said.
        value_at tag (cell_fields (Tag row.tag, said)) ≡ None)
        [ None ↦ refl | Some text ↦ rw other refl ]

    -- an item that writes no field of a tag
    item_value : (tag : ℕ) (item : Item Kind) → writes tag item ≡ false
        → AllByRecursion (GroupSaid m) (groups_of item) → value_at tag (item_fields m item) ≡ None
    item_value tag (One row) other said = row_value tag row other
    item_value tag (Party role) other said = refl
    item_value tag (Lines group) other said =
        let lines = lines_of group.count m.groups in
        value_none (group.count ∷ tags_of group.rows) tag (group_fields group.count lines)
        (group_of judge group lines said.0) other

    pub items_value : (tag : ℕ) (items : List (Item Kind)) → list_any (writes tag) items ≡ false
        → AllByRecursion (GroupSaid m) (flat_map groups_of items) →
        value_at tag (flat_map (item_fields m) items) ≡ None
    items_value tag [] other said = refl
    items_value tag (item ∷ items) other said =
        let apart = either (writes tag item) (list_any (writes tag) items) other in
        let here = item_value tag item apart.0 (each_front _ (groups_of item) _ said) in
        value_at-append tag (item_fields m item) (flat_map (item_fields m) items)
        ∙ rw here (items_value tag items apart.1 (each_back _ (groups_of item) _ said))

    at_item : (tag : ℕ) (item : Item Kind) (items : List (Item Kind)) (here : Bool)
        → writes tag item ≡ here → (if here then is_row item && not (list_any (writes tag) items)
        else is_alone tag items) ≡ true
        → AllByRecursion (GroupSaid m) (groups_of item)
        → AllByRecursion (GroupSaid m) (flat_map groups_of items) → (is_alone tag items ≡ true
        → value_at tag (flat_map (item_fields m) items) ≡ said_at m.cells (Tag tag)) →
        value_at tag (item_fields m item ++ flat_map (item_fields m) items)
        ≡ said_at m.cells (Tag tag)
    at_item tag item items false e alone mine said later =
        value_at-append tag (item_fields m item) (flat_map (item_fields m) items)
        ∙ rw (item_value tag item e mine) (later alone)
    at_item tag (One row) items true e alone mine said later =
        let others : value_at tag (flat_map (item_fields m) items) ≡ None =
        items_value tag items (not_true (list_any (writes tag) items) alone) said in
        value_at-append tag (item_fields m (One row)) (flat_map (item_fields m) items)
        ∙ rw others (or_none (value_at tag (item_fields m (One row))))
        ∙ at_equal (λ t. value_at tag (cell_fields (Tag t, said_at m.cells (Tag t)))
        ≡ said_at m.cells (Tag tag)) row.tag tag e (cell_value tag (said_at m.cells (Tag tag)))
    at_item tag other items true e alone mine said later = absurd cc

    -- what a row that alone writes its tag says
    pub value_said : (tag : ℕ) (items : List (Item Kind))
        → is_alone tag items ≡ true → AllByRecursion (GroupSaid m) (flat_map groups_of items) →
        value_at tag (flat_map (item_fields m) items) ≡ said_at m.cells (Tag tag)
    value_said tag [] alone said = absurd cc
    value_said tag (item ∷ items) alone said =
        let later = each_back _ (groups_of item) _ said in
        at_item tag item items (writes tag item) refl alone (each_front _ (groups_of item) _ said)
        later (λ h. value_said tag items h later)
