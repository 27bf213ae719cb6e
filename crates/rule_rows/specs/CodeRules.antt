-- Inside: the rules of a direction as the code has them, what it reads by them, and what it writes
-- by each of what it has read, whatever the kinds of the direction's own are.
use Rattle.std.specs.Prelude.{◌≡◌, ℕ, Bool, List, [], ◌∷◌, map, Option, Some, None}
use Rattle.std.specs.Option.{option_map}
use Rattle.typed_fields.specs.Stamp.{cut_text}
use Rattle.field_groups.specs.Field.{Field}
use Rattle.message_tables.specs.CodeTables.{table_of as code_table}
use Rattle.message_tables.specs.Content.{cell_fields, group_fields}
use Rattle.message_tables.specs.FirstFault.{message_in}
use Rattle.message_tables.specs.Tables.{Said, Table, Tag, lines_of, value_at}
use Rattle.order_meaning.specs.declared.fault.Lack.{Lack}
use Rattle.order_meaning.specs.declared.fault.Lack.TheVariants as faults
use Rattle.row_values.specs.CodeKinds.{kind_of}
use Rattle.row_values.specs.Kinds.{Kind, judge}
use Rattle.rule_rows.specs.ByRules.{Kinds, placed}
use Rattle.rule_rows.specs.Rules.{Rule, Group, Moved, Same, with_own}
use Rattle.rule_rows.specs.Texts.{AreRead as AreReadBy, OfKind, OfKinds, Own as OwnText, Reading}
use Rattle.rule_rows.specs.Texts.{decimal_text, is_amount, is_kept, is_moment, kept}
use Rattle.rule_rows.specs.declared.rules.Rule.{Rule as CodeRule}
use Rattle.rule_rows.specs.declared.rules.Rule.TheVariants as rules
use Rattle.rule_rows.specs.declared.source.Source.{Source}

-- ---- what it writes

-- the table of what was read, and the value of a tag as it stands
abbrev pub table_of : {B : Type 0} → Source B → Table Kind
table_of s = code_table kind_of s.table.now

abbrev pub stands : {B : Type 0} → Source B → ℕ → Said
stands s tag = value_at tag s.fields.now

-- WHAT THE CODE WRITES by a rule, where the kinds of the direction's own write this
abbrev pub writes : {B O : Type 0} → (Source B → O → List Field) → Source B → CodeRule O
    → List Field
writes own s (rules.Same tag) = cell_fields (Tag tag, stands s tag)
writes own s (rules.Decimal from to) = cell_fields (Tag to, decimal_text (stands s from))
writes own s (rules.Moment tag) = cell_fields (Tag tag, option_map cut_text (stands s tag))
writes own s (rules.Kept from to kind) =
    cell_fields (Tag to, kept s.fields.now from (kind_of kind))
writes own s (rules.Lines count) =
    group_fields count (lines_of count (message_in judge (table_of s) s.fields.now).groups)
writes own s (rules.By rule) = own s rule

-- the tag that it cannot say
abbrev pub lacked : {B O : Type 0} → (Source B → O → Option ℕ) → Source B → CodeRule O → Option ℕ
lacked own s (rules.By rule) = own s rule
lacked own s rule = None

-- a lack of this tag; want of memory is free
abbrev pub IsLackOf : Option ℕ → Lack → Type 0
IsLackOf lack faults.NoMemory = Unit {0}
IsLackOf lack (faults.Tag tag) = lack ≡ Some tag

-- ---- a direction

-- A DIRECTION IN THE CODE: the kinds of rules of its own and the tags at which a message says
-- something else than its row; and of each kind of the code the rule that it is, what it reads of a
-- table, what it writes, and the tag that it cannot say.
pub record Code (B O Own : Type 0) : Type 0 where
  pub kinds : Kinds Own
  pub apart : ℕ → Bool
  pub rule : O → Rule Own
  pub reading : Table Kind → O → List Reading
  pub writes : Source B → O → List Field
  pub lacks : Source B → O → Option ℕ

module _ {B O Own : Type 0} (code : Code B O Own) where
  -- the rule that a rule of the code is
  abbrev pub rule_of : CodeRule O → Rule Own
  rule_of (rules.Same tag) = Same tag
  rule_of (rules.Decimal from to) = Moved from to
  rule_of (rules.Moment tag) = Same tag
  rule_of (rules.Kept from to kind) = Moved from to
  rule_of (rules.Lines count) = Group count
  rule_of (rules.By rule) = code.rule rule

  -- what the code reads by it
  abbrev pub reading : Table Kind → CodeRule O → List Reading
  reading table (rules.Same tag) = OwnText tag ∷ []
  reading table (rules.Decimal from to) = OfKinds is_amount from ∷ []
  reading table (rules.Moment tag) = OfKinds is_moment tag ∷ []
  reading table (rules.Kept from to kind) = OfKind is_kept (kind_of kind) from ∷ []
  reading table (rules.Lines count) = []
  reading table (rules.By rule) = code.reading table rule

  -- THE TABLE HAS what the code reads by these rules
  abbrev pub AreRead : Table Kind → List (CodeRule O) → Type 0
  AreRead table rules = AreReadBy code.apart table (reading table) rules

  -- THE RULES OF THE CODE FOR A TABLE: those that it has a place for are these, and it has what is
  -- read by them
  pub record AreFor (table : Table Kind) (all : List (Rule Own)) (rules : List (CodeRule O))
      : Type 0 where
    pub are : placed (with_own code.kinds) table.items (map rule_of rules)
        ≡ placed (with_own code.kinds) table.items all
    pub read : AreRead table rules
