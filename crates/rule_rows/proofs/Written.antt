-- What the code writes of fields at no fault by rules that their table has the rows for is what the
-- rules write of their message, and it lacks what that lacks, whatever the direction is.
use Rattle.std.proofs.Common.{◌≡◌, ◌∙◌, ℕ, List, [], ◌∷◌, ◌++◌, Bool, true, false, Option, None}
use Rattle.std.proofs.Common.{refl, sym, ap, map}
use Rattle.message_tables.specs.Tables.{Item, Message, first_of, or_else, Cell, Said, Table, Tag}
use Rattle.message_tables.specs.Tables.{lines_of, said_at}
use Rattle.row_values.specs.Kinds.{Kind, judge}
use Rattle.rule_rows.specs.ByRules.{Kinds, Outline, content_by, fields_at, outline, outline_of}
use Rattle.rule_rows.specs.ByRules.{placed, rule_fields, with_rule, lack_by}
use Rattle.rule_rows.proofs.Looked.{AreKinds}
use Rattle.rule_rows.proofs.Made.{nothing_at}
use Rattle.std.specs.List.{AllByRecursion, flat_map}
use Rattle.field_groups.specs.Field.{Field}
use Rattle.message_tables.specs.Content.{cell_fields, group_fields}
use Rattle.message_tables.specs.FirstFault.{first_fault, message_in}
use Rattle.row_values.specs.CodeKinds.{kind_of}
use Rattle.sound_laws.proofs.RowsSaid.{row_of_tag}
use Rattle.rule_rows.specs.Rules.{Rule, with_own}
use Rattle.rule_rows.specs.Texts.{Has, Own as OwnText}
use Rattle.rule_rows.proofs.FieldsSaid.{IsRead, decimal_said, each_read, kept_said, moment_said}
use Rattle.rule_rows.proofs.FieldsSaid.{row_says, text_said}
use Rattle.rule_rows.specs.declared.rules.Rule.{Rule as CodeRule}
use Rattle.rule_rows.specs.declared.rules.Rule.TheVariants as rules
use Rattle.rule_rows.specs.declared.source.Source.{Source}
use Rattle.rule_rows.specs.CodeRules.{AreFor, Code, lacked, reading, rule_of, stands, table_of}
use Rattle.rule_rows.specs.CodeRules.{writes}

-- ---- rules that a table has no place for write nothing, and lack nothing

module _ {Rule : Type 0} (kinds : Kinds Rule) (are : AreKinds kinds) (m : Message)
    (items : List (Item Kind)) (there : outline m ≡ outline_of items) where
  has_is : (rule : Rule) (b : Bool) → kinds.has (outline_of items) rule ≡ b
      → kinds.has (outline m) rule ≡ b
  has_is rule b e = ap (λ (o : Outline). kinds.has o rule) there ∙ e

  nothing : (rule : Rule) → kinds.has (outline m) rule ≡ false → rule_fields kinds m rule ≡ []
  nothing rule e =
      (λ i. fields_at (kinds.target rule) (are.none m rule e i) (are.no_lines m rule e i))
      ∙ nothing_at (kinds.target rule)

  pub placed_content : (all : List Rule)
      → content_by kinds (placed kinds items all) m ≡ content_by kinds all m
  placed_content [] = refl
  placed_content (rule ∷ all) =
      elim (kinds.has (outline_of items) rule) as (λ b. kinds.has (outline_of items) rule ≡ b
      → content_by kinds (with_rule b rule (placed kinds items all)) m
      ≡ rule_fields kinds m rule ++ content_by kinds all m) [
        | true ↦ λ e. ap (λ fs. rule_fields kinds m rule ++ fs) (placed_content all)
        | false ↦ λ e. placed_content all
            ∙ ap (λ fs. fs ++ content_by kinds all m) (sym (nothing rule (has_is rule false e)))
      ] refl

  pub placed_lack : ((rule : Rule) → kinds.has (outline m) rule ≡ false
      → kinds.lack m rule ≡ None) → (all : List Rule)
      → first_of (kinds.lack m) (placed kinds items all) ≡ first_of (kinds.lack m) all
  unfolding first_of
  placed_lack none [] = refl
  placed_lack none (rule ∷ all) =
      elim (kinds.has (outline_of items) rule) as (λ b. kinds.has (outline_of items) rule ≡ b
      → first_of (kinds.lack m) (with_rule b rule (placed kinds items all))
      ≡ or_else (kinds.lack m rule) (first_of (kinds.lack m) all)) [
        | true ↦ λ e. ap (or_else (kinds.lack m rule)) (placed_lack none all)
        | false ↦ λ e. placed_lack none all
            ∙ ap (λ (o : Option ℕ). or_else o (first_of (kinds.lack m) all))
            (sym (none rule (has_is rule false e)))
      ] refl

-- ---- what the code writes

-- FIELDS AT NO FAULT ARE A MESSAGE: at each tag but those apart it says what they say by the row of
-- the tag, and it has the groups that they have, and the places of its table.
pub record AreSaid (apart : ℕ → Bool) (table : Table Kind) (fields : List Field) (m : Message)
    : Type 0 where
  pub none : first_fault judge table fields ≡ None
  pub at_row : (tag : ℕ) → apart tag ≡ false
      → said_at m.cells (Tag tag) ≡ row_says fields (row_of_tag tag table.items)
  pub groups : (message_in judge table fields).groups ≡ m.groups
  pub there : outline m ≡ outline_of table.items

module _ {B O Own : Type 0} (code : Code B O Own) (s : Source B) (m : Message) where
  abbrev kinds : Kinds (Rule Own)
  kinds = with_own code.kinds

  -- A RULE OF THE CODE writes and lacks of fields what the rule that it is does of the message
  pub record Goes (rule : CodeRule O) : Type 0 where
    pub written : writes code.writes s rule ≡ rule_fields kinds m (rule_of code rule)
    pub lacked : lacked code.lacks s rule ≡ kinds.lack m (rule_of code rule)

  -- a field that is moved
  pub moved : {a b : Said} (tag : ℕ) → a ≡ b → cell_fields (Tag tag, a) ≡ cell_fields (Tag tag, b)
  moved tag e = ap (λ (x : Said). cell_fields (Tag tag, x)) e

  module _ (said : AreSaid code.apart (table_of s) s.fields.now m) where
    -- a value that stands is what the message says
    pub text : (tag : ℕ) → Has code.apart (table_of s) (OwnText tag)
        → stands s tag ≡ said_at m.cells (Tag tag)
    text tag has = text_said code.apart (table_of s) s.fields.now said.none
        (λ tag. said_at m.cells (Tag tag)) said.at_row tag has

    module _ (own : (rule : O) → IsRead code.apart (table_of s) (code.reading (table_of s)) rule
        → Goes (rules.By rule)) where
      rule_goes : (rule : CodeRule O)
          → IsRead code.apart (table_of s) (reading code (table_of s)) rule → Goes rule
      rule_goes (rules.Same tag) has =
          record { written = moved tag (text tag has.0); lacked = refl }
      rule_goes (rules.Decimal from to) has = record {
        written = moved to (decimal_said code.apart (table_of s) s.fields.now said.none
            (λ tag. said_at m.cells (Tag tag)) said.at_row from has.0);
        lacked = refl;
      }
      rule_goes (rules.Moment tag) has = record {
        written = moved tag (moment_said code.apart (table_of s) s.fields.now said.none
            (λ tag. said_at m.cells (Tag tag)) said.at_row tag has.0);
        lacked = refl;
      }
      rule_goes (rules.Kept from to kind) has = record {
        written = moved to (kept_said code.apart (table_of s) s.fields.now said.none
            (λ tag. said_at m.cells (Tag tag)) said.at_row (kind_of kind) from has.0);
        lacked = refl;
      }
      rule_goes (rules.Lines count) has = record {
        written = ap (λ (gs : List (ℕ × List (List Cell))). group_fields count (lines_of count gs))
            said.groups;
        lacked = refl;
      }
      rule_goes (rules.By rule) has = own rule has

      pub rules_written : (rules : List (CodeRule O))
          → AllByRecursion (IsRead code.apart (table_of s) (reading code (table_of s))) rules
          → flat_map (writes code.writes s) rules ≡ content_by kinds (map (rule_of code) rules) m
      rules_written [] has = refl
      rules_written (rule ∷ rules) has =
          λ i. (rule_goes rule has.0).written i ++ rules_written rules has.1 i

      pub rules_lacked : (rules : List (CodeRule O))
          → AllByRecursion (IsRead code.apart (table_of s) (reading code (table_of s))) rules
          → first_of (lacked code.lacks s) rules
          ≡ first_of (kinds.lack m) (map (rule_of code) rules)
      unfolding first_of
      rules_lacked [] has = refl
      rules_lacked (rule ∷ rules) has =
          λ i. or_else ((rule_goes rule has.0).lacked i) (rules_lacked rules has.1 i)

      module _ (are : AreKinds kinds) (all : List (Rule Own)) (rules : List (CodeRule O))
          (for : AreFor code (table_of s) all rules) where
        -- WHAT IS WRITTEN by the rules of the code for a table is what all rules write
        pub all_written : flat_map (writes code.writes s) rules ≡ content_by kinds all m
        all_written =
            rules_written rules
            (each_read code.apart (table_of s) (reading code (table_of s)) rules for.read)
            ∙ sym (placed_content kinds are m (table_of s).items said.there
            (map (rule_of code) rules))
            ∙ ap (λ rs. content_by kinds rs m) for.are
            ∙ placed_content kinds are m (table_of s).items said.there all

        -- THEIR LACK is that of all rules, where a rule that has no place lacks nothing
        pub all_lacked : ((rule : Rule Own) → kinds.has (outline m) rule ≡ false
            → kinds.lack m rule ≡ None)
            → first_of (lacked code.lacks s) rules ≡ lack_by kinds all m
        all_lacked none =
            rules_lacked rules
            (each_read code.apart (table_of s) (reading code (table_of s)) rules for.read)
            ∙ sym (placed_lack kinds are m (table_of s).items said.there none
            (map (rule_of code) rules))
            ∙ ap (λ rs. first_of (kinds.lack m) rs) for.are
            ∙ placed_lack kinds are m (table_of s).items said.there none all
