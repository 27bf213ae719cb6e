-- Rules with kinds of a direction's own: what holds of the fields and groups that are carried,
-- whatever the other kinds are.
use Rattle.std.proofs.Common.{◌≡◌, ℕ, List, [], ◌∷◌, Option, refl, false, None}
use Rattle.message_tables.specs.Tables.{Item, RepeatingGroup, Row, Tag, Message}
use Rattle.row_values.specs.Kinds.{Kind}
use Rattle.sound_laws.proofs.RowsSaid.{row_of_tag}
use Rattle.rule_rows.specs.ByRules.{Kinds, outline}
use Rattle.rule_rows.specs.Rows.{group_at}
use Rattle.rule_rows.specs.Rules.{By, Group, Moved, Rule, with_own}
use Rattle.rule_rows.proofs.Items.{turned, turned_group, turned_group_made, turned_made}
use Rattle.rule_rows.proofs.Looked.{AreKinds, absent, no_lines}
use Rattle.rule_rows.proofs.Made.{IsMade}

module _ {Own : Type 0} (own : Kinds Own) where
  module _ (are : AreKinds own) where
    says_none : (m : Message) (rule : Rule Own) → (with_own own).has (outline m) rule ≡ false
        → (with_own own).said m rule ≡ None
    says_none m (Moved from to) h = (absent m (Tag from ∷ []) h).0
    says_none m (Group count) h = refl
    says_none m (By rule) h = are.none m rule h

    says_no_lines : (m : Message) (rule : Rule Own) → (with_own own).has (outline m) rule ≡ false
        → (with_own own).lines m rule ≡ []
    says_no_lines m (Moved from to) h = refl
    says_no_lines m (Group count) h = no_lines m.groups count h
    says_no_lines m (By rule) h = are.no_lines m rule h

    pub are_with : AreKinds (with_own own)
    are_with = record { none = says_none; no_lines = says_no_lines }

  -- what a row and a group that are carried become
  module _ (turn : ℕ → Row Kind → Row Kind) (turn_group : RepeatingGroup Kind → RepeatingGroup Kind)
      (items : List (Item Kind)) (make : Own → Option (Item Kind)) where
    abbrev pub make_with : Rule Own → Option (Item Kind)
    make_with (Moved from to) = turned (turn to) (row_of_tag from items)
    make_with (Group count) = turned_group turn_group (group_at count items)
    make_with (By rule) = make rule

    pub each_with : ((to : ℕ) (row : Row Kind) → (turn to row).tag ≡ to)
        → ((group : RepeatingGroup Kind) → (turn_group group).count ≡ group.count)
        → ((rule : Own) → IsMade own items make rule)
        → (rule : Rule Own) → IsMade (with_own own) items make_with rule
    each_with tag count each (Moved from to) = turned_made items (turn to) from to (tag to)
    each_with tag count each (Group n) = turned_group_made items turn_group n count
    each_with tag count each (By rule) = each rule
