-- Own: the rules of a direction: fields and groups that are carried, and kinds of its own.
use Rattle.std.specs.Prelude.{ℕ, Bool, List, [], ◌∷◌, Option, None}
use Rattle.message_tables.specs.Tables.{Cell, Message, Said, Tag, lines_of, said_at}
use Rattle.rule_rows.specs.ByRules.{At, Grouped, Kinds, Outline, Target, has_any, has_group}

-- How a target says one line of its table, where these are the kinds of the direction's own.
pub data Rule (Own : Type 0) : Type 0 where
  -- the field of a tag, as the source says it, at this tag
  Moved : (from to : ℕ) → Rule Own
  -- the lines of a group, as the source says them
  Group : (count : ℕ) → Rule Own
  -- what a kind of its own says
  By : (own : Own) → Rule Own

-- the field of a tag at the same one
abbrev pub Same : {Own : Type 0} → ℕ → Rule Own
Same tag = Moved tag tag

module _ {Own : Type 0} (own : Kinds Own) where
  abbrev target : Rule Own → Target
  target (Moved from to) = At (Tag to)
  target (Group count) = Grouped count
  target (By rule) = own.target rule

  abbrev has : Outline → Rule Own → Bool
  has there (Moved from to) = has_any there (Tag from ∷ [])
  has there (Group count) = has_group there count
  has there (By rule) = own.has there rule

  abbrev said : Message → Rule Own → Said
  said m (Moved from to) = said_at m.cells (Tag from)
  said m (Group count) = None
  said m (By rule) = own.said m rule

  abbrev lines : Message → Rule Own → List (List Cell)
  lines m (Moved from to) = []
  lines m (Group count) = lines_of count m.groups
  lines m (By rule) = own.lines m rule

  abbrev lack : Message → Rule Own → Option ℕ
  lack m (By rule) = own.lack m rule
  lack m rule = None

  -- THE KINDS OF RULES, with those of the direction's own
  abbrev pub with_own : Kinds (Rule Own)
  with_own = record { target = target; has = has; said = said; lines = lines; lack = lack }
