-- The table that rules make of a table: what they make of a message has its places and groups, and
-- is written as its content, whatever the kinds of the rules are.
use Rattle.std.proofs.Common.{◌≡◌, List, [], ◌∷◌, ◌++◌, map, Bool, true, false, Option, Some, None}
use Rattle.std.proofs.Common.{refl, sym, ap, subst, ◌∙◌, append-nil}
use Rattle.std.proofs.lemmas.Grind.{flat_map-append}
use Rattle.std.proofs.lemmas.List.{map-append}
use Rattle.std.specs.Option.{option_map}
use Rattle.std.specs.Prelude.{option_to_list, unwrap_or}
use Rattle.std.specs.List.{AllByRecursion, flat_map}
use Rattle.message_tables.specs.Tables.{Item, One, Party, Lines, Message, Tag, Role, Said, Cell}
use Rattle.message_tables.specs.Tables.{groups_of}
use Rattle.message_tables.specs.Content.{cell_fields, group_fields, item_fields}
use Rattle.row_values.specs.Kinds.{Kind}
use Rattle.sound_laws.specs.Sound.{places_of}
use Rattle.rule_rows.specs.ByRules.{Target, At, Grouped, Outline, Kinds, by_rules, cells_at}
use Rattle.rule_rows.specs.ByRules.{content_by, fields_at, groups_at, outline, outline_of}
use Rattle.rule_rows.specs.ByRules.{rule_cells, rule_fields, rule_groups}
use Rattle.rule_rows.proofs.Looked.{AreKinds, AreOwn, IsFound, all_found, has_lines_of, lines_by}
use Rattle.rule_rows.proofs.Looked.{rule_at, said_by, says}

-- nothing is written where nothing is said
pub nothing_at : (target : Target) → fields_at target None [] ≡ []
nothing_at (At (Tag tag)) = refl
nothing_at other = refl

-- ---- what a rule makes of a table

abbrev pub target_of : Item Kind → Target
target_of (One row) = At (Tag row.tag)
target_of (Party role) = At (Role role)
target_of (Lines group) = Grouped group.count

abbrev pub target_if : Bool → Target → Option Target
target_if true target = Some target
target_if false target = None

module _ {Rule : Type 0} (kinds : Kinds Rule) (items : List (Item Kind))
    (make : Rule → Option (Item Kind)) where
  -- A RULE MAKES an item of a table just where a message of the table has it
  abbrev pub IsMade : Rule → Type 0
  IsMade rule = option_map target_of (make rule)
      ≡ target_if (kinds.has (outline_of items) rule) (kinds.target rule)

  -- THE TABLE that rules make
  abbrev pub made : List Rule → List (Item Kind)
  made rules = flat_map (λ rule. option_to_list (make rule)) rules

  same_target : (item : Item Kind) (target : Target)
      → ◌≡◌ {A = Option Target} (Some (target_of item)) (Some target) → target_of item ≡ target
  same_target item target h = ap (λ o. unwrap_or o target) h

  module _ (m : Message) (there : outline m ≡ outline_of items) where
    has_is : (rule : Rule) → kinds.has (outline m) rule ≡ kinds.has (outline_of items) rule
    has_is rule = ap (λ (o : Outline). kinds.has o rule) there

    -- ---- places and groups

    -- what a rule makes has the places and groups of its item
    outline_at : (has : Bool) (target : Target) (said : Said) (lines : List (List Cell))
        (item : Option (Item Kind)) → option_map target_of item ≡ target_if has target
        → (map (λ cell. cell.0) (cells_at has target said)
        ≡ flat_map places_of (option_to_list item))
        × (map (λ group. group.0) (groups_at has target lines)
        ≡ map (λ group. group.count) (flat_map groups_of (option_to_list item)))
    outline_at true target said lines (Some item) h =
        let P : Target → Type 0 = λ t.
        (map (λ cell. cell.0) (cells_at true t said) ≡ flat_map places_of (item ∷ []))
        × (map (λ group. group.0) (groups_at true t lines)
        ≡ map (λ group. group.count) (flat_map groups_of (item ∷ []))) in
        subst P (same_target item target h) (of_item item)
      where
        of_item : (item : Item Kind)
            → (map (λ cell. cell.0) (cells_at true (target_of item) said)
            ≡ flat_map places_of (item ∷ []))
            × (map (λ group. group.0) (groups_at true (target_of item) lines)
            ≡ map (λ group. group.count) (flat_map groups_of (item ∷ [])))
        of_item (One row) = (refl, refl)
        of_item other = (refl, refl)
    outline_at false target said lines None h = (refl, refl)
    outline_at other target said lines more h = absurd cc

    outlines : ((rule : Rule) → IsMade rule) → (rules : List Rule)
        → (map (λ cell. cell.0) (flat_map (rule_cells kinds m) rules)
        ≡ flat_map places_of (made rules))
        × (map (λ group. group.0) (flat_map (rule_groups kinds m) rules)
        ≡ map (λ group. group.count) (flat_map groups_of (made rules)))
    outlines each [] = (refl, refl)
    outlines each (rule ∷ rules) =
        let here = outline_at (kinds.has (outline m) rule) (kinds.target rule) (kinds.said m rule)
        (kinds.lines m rule) (make rule)
        (each rule ∙ ap (λ b. target_if b (kinds.target rule)) (sym (has_is rule))) in
        let rest = outlines each rules in
        let its = option_to_list (make rule) in (
          map-append (λ cell. cell.0) (rule_cells kinds m rule)
              (flat_map (rule_cells kinds m) rules)
              ∙ (λ i. here.0 i ++ rest.0 i) ∙ sym (flat_map-append places_of its (made rules)),
          map-append (λ group. group.0) (rule_groups kinds m rule)
              (flat_map (rule_groups kinds m) rules) ∙ (λ i. here.1 i ++ rest.1 i)
              ∙ sym (ap (λ l. map (λ group. group.count) l)
              (flat_map-append groups_of its (made rules))
              ∙ map-append (λ group. group.count) (flat_map groups_of its)
              (flat_map groups_of (made rules))),
        )

    -- THE OUTLINE of what rules make of a message is that of the table that they make
    pub outline_made : ((rule : Rule) → IsMade rule) → (rules : List Rule)
        → outline (by_rules kinds rules m) ≡ outline_of (made rules)
    outline_made each rules =
        let both = outlines each rules in λ i. record { places = both.0 i; counts = both.1 i }

    -- ---- the content

    module _ (are : AreKinds kinds) (all : List Rule) (own : AreOwn kinds all) where
      abbrev w : Message
      w = by_rules kinds all m

      item_at : (rule : Rule) (item : Item Kind) → rule_at kinds (target_of item) all ≡ Some rule
          → fields_at (target_of item) (kinds.said m rule) (kinds.lines m rule) ≡ item_fields w item
      item_at rule (One row) found = ap (λ said. cell_fields (Tag row.tag, said))
          (sym (says kinds are all own m (Tag row.tag) ∙ ap (said_by kinds m) found))
      item_at rule (Party role) found = refl
      item_at rule (Lines group) found = ap (group_fields group.count)
          (sym (has_lines_of kinds are all own m group.count ∙ ap (lines_by kinds m) found))

      fields_made : (rule : Rule) → IsFound kinds all rule → (has : Bool)
          → kinds.has (outline m) rule ≡ has → (item : Option (Item Kind))
          → option_map target_of item ≡ target_if has (kinds.target rule)
          → rule_fields kinds m rule ≡ flat_map (item_fields w) (option_to_list item)
      fields_made rule found true e (Some item) h =
          let is = same_target item (kinds.target rule) h in
          ap (λ t. fields_at t (kinds.said m rule) (kinds.lines m rule)) (sym is)
          ∙ item_at rule item (ap (λ t. rule_at kinds t all) is ∙ found)
          ∙ sym (append-nil (item_fields w item))
      fields_made rule found false e None h =
          (λ i. fields_at (kinds.target rule) (are.none m rule e i) (are.no_lines m rule e i))
          ∙ nothing_at (kinds.target rule)
      fields_made rule found other e more h = absurd cc

      contents_made : ((rule : Rule) → IsMade rule) → (rules : List Rule)
          → AllByRecursion (IsFound kinds all) rules
          → content_by kinds rules m ≡ flat_map (item_fields w) (made rules)
      contents_made each [] found = refl
      contents_made each (rule ∷ rules) found =
          (λ i. here i ++ contents_made each rules found.1 i)
          ∙ sym (flat_map-append (item_fields w) (option_to_list (make rule)) (made rules))
        where
          here : rule_fields kinds m rule ≡ flat_map (item_fields w) (option_to_list (make rule))
          here = fields_made rule found.0 (kinds.has (outline_of items) rule) (has_is rule)
              (make rule) (each rule)

      -- THE CONTENT by rules is that by the table that they make
      pub content_made : ((rule : Rule) → IsMade rule)
          → content_by kinds all m ≡ flat_map (item_fields w) (made all)
      content_made each = contents_made each all (all_found kinds all own)
