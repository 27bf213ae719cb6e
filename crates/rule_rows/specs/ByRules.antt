-- Own: what a list of rules makes of a message, whatever the kinds of its rules are. A translation
-- from one version to another is such a list, in the order of writing.
use Rattle.std.specs.Prelude.{ℕ, Bool, true, false, ◌==◌, List, [], ◌∷◌, map}
use Rattle.std.specs.Prelude.{Option, Some, None, Result, Ok, Err}
use Rattle.std.specs.List.{flat_map, list_any}
use Rattle.field_groups.specs.Field.{Field}
use Rattle.message_tables.specs.Content.{cell_fields, group_fields}
use Rattle.message_tables.specs.Tables.{Place, Said, Cell, Item, Message, first_of, groups_of}
use Rattle.message_tables.specs.Tables.{is_place}
use Rattle.sound_laws.specs.Sound.{places_of}

-- where a rule writes: at a place, or the lines of a group
pub data Target : Type 0 where
  At : (place : Place) → Target
  Grouped : (count : ℕ) → Target

-- the places and the groups that a message has, or a table
pub record Outline : Type 0 where
  pub places : List Place
  pub counts : List ℕ

abbrev pub outline : Message → Outline
outline m = record {
  places = map (λ cell. cell.0) m.cells;
  counts = map (λ group. group.0) m.groups;
}

abbrev pub outline_of : {Kind : Type 0} → List (Item Kind) → Outline
outline_of items = record {
  places = flat_map places_of items;
  counts = map (λ group. group.count) (flat_map groups_of items);
}

abbrev pub has_place : Outline → Place → Bool
has_place there place = list_any (λ one. is_place one place) there.places

abbrev pub has_any : Outline → List Place → Bool
has_any there wanted = list_any (has_place there) wanted

abbrev pub has_group : Outline → ℕ → Bool
has_group there count = list_any (λ one. one == count) there.counts

-- THE KINDS OF RULES of a direction: of each rule where it writes; whether a message of this
-- outline has that; what a message says there, or the lines that it has there; and the tag of the
-- source that cannot be said, if there is one.
pub record Kinds (Rule : Type 0) : Type 0 where
  pub target : Rule → Target
  pub has : Outline → Rule → Bool
  pub said : Message → Rule → Said
  pub lines : Message → Rule → List (List Cell)
  pub lack : Message → Rule → Option ℕ

abbrev pub cells_at : Bool → Target → Said → List Cell
cells_at true (At place) said = (place, said) ∷ []
cells_at has target said = []

abbrev pub groups_at : Bool → Target → List (List Cell) → List (ℕ × List (List Cell))
groups_at true (Grouped count) lines = (count, lines) ∷ []
groups_at has target lines = []

abbrev pub fields_at : Target → Said → List (List Cell) → List Field
fields_at (At place) said lines = cell_fields (place, said)
fields_at (Grouped count) said lines = group_fields count lines

abbrev pub with_rule : {Rule : Type 0} → Bool → Rule → List Rule → List Rule
with_rule true rule rules = rule ∷ rules
with_rule false rule rules = rules

module _ {Rule : Type 0} (kinds : Kinds Rule) where
  abbrev pub rule_cells : Message → Rule → List Cell
  rule_cells m rule =
      cells_at (kinds.has (outline m) rule) (kinds.target rule) (kinds.said m rule)

  abbrev pub rule_groups : Message → Rule → List (ℕ × List (List Cell))
  rule_groups m rule =
      groups_at (kinds.has (outline m) rule) (kinds.target rule) (kinds.lines m rule)

  -- THE MESSAGE that rules make of a message
  abbrev pub by_rules : List Rule → Message → Message
  by_rules rules m = record {
    letter = m.letter;
    resend = m.resend;
    cells = flat_map (rule_cells m) rules;
    groups = flat_map (rule_groups m) rules;
  }

  -- THE LACK of a message: that of the first rule that has one
  abbrev pub lack_by : List Rule → Message → Option ℕ
  lack_by rules m = first_of (kinds.lack m) rules

  -- what a rule writes of a message, and the content that rules write
  abbrev pub rule_fields : Message → Rule → List Field
  rule_fields m rule = fields_at (kinds.target rule) (kinds.said m rule) (kinds.lines m rule)

  abbrev pub content_by : List Rule → Message → List Field
  content_by rules m = flat_map (rule_fields m) rules

  -- the rules that a table has a place for
  abbrev pub placed : {Kind : Type 0} → List (Item Kind) → List Rule → List Rule
  placed items [] = []
  placed items (rule ∷ rules) =
      with_rule (kinds.has (outline_of items) rule) rule (placed items rules)

-- the tag of a rule that cannot be said, where this holds
abbrev pub lack_if : Bool → ℕ → Option ℕ
lack_if true tag = Some tag
lack_if false tag = None

-- a message, or the tag that it lacks
abbrev pub or_lack : Option ℕ → Message → Result Message ℕ
or_lack None m = Ok m
or_lack (Some tag) m = Err tag
