-- What rules make of a sound message is sound in the table that they make, where each rule makes an
-- item that it says: the shapes of such items, whatever the kinds of the rules are.
use Rattle.std.proofs.Common.{◌≡◌, ℕ, List, [], ◌∷◌, Bool, true, false, Option, Some, None, refl}
use Rattle.std.proofs.Common.{sym, ap, subst, ◌∙◌}
use Rattle.std.specs.Prelude.{IfSome, is_some, option_to_list}
use Rattle.std.specs.List.{AllByRecursion, flat_map}
use Rattle.field_groups.specs.Field.{Field}
use Rattle.message_tables.specs.Tables.{Row, Item, One, Party, Lines, RepeatingGroup, Message}
use Rattle.message_tables.specs.Tables.{Place, Tag, Said, Cell, Table, said_at, groups_of, value_at}
use Rattle.message_tables.specs.Tables.{is_one_of, lines_of}
use Rattle.message_tables.specs.Content.{content}
use Rattle.row_values.specs.Kinds.{Kind, judge}
use Rattle.sound_laws.specs.Sound.{IsGroup, IsItem, IsSaid, IsSound}
use Rattle.sound_laws.proofs.Each.{each_by, each_option, each_whole}
use Rattle.sound_laws.proofs.ContentAgain.{IsGone, IsMonthOf, gone_by}
use Rattle.sound_laws.proofs.ContentValues.{GroupSaid, is_alone, value_said}
use Rattle.sound_laws.proofs.RowsSaid.{row_of_tag}
use Rattle.sound_laws.proofs.Stages.{item_tags}
use Rattle.sound_laws.proofs.TableFits.{table_fits}
use Rattle.rule_rows.specs.ByRules.{At, Grouped, Kinds, by_rules, content_by, has_any}
use Rattle.rule_rows.specs.ByRules.{outline_of}
use Rattle.rule_rows.specs.Rows.{group_at}
use Rattle.rule_rows.proofs.Items.{can_go, count_is, has_one, has_row, item_if, may_go, row_there}
use Rattle.rule_rows.proofs.Items.{turned, turned_group}
use Rattle.rule_rows.proofs.Looked.{AreKinds, AreOwn, IsFound, has_lines_of, lines_by, rule_at}
use Rattle.rule_rows.proofs.Looked.{said_by, says}
use Rattle.rule_rows.proofs.Made.{IsMade, content_made, made, outline_made}
use Rattle.rule_rows.proofs.Said as source

-- a row that may go, where there is one
pub may_fit : (row : Option (Row Kind)) → may_go row ≡ true → IfSome row (λ row. can_go row ≡ true)
may_fit None h = tt
may_fit (Some row) h = h

-- what holds of a row that is found, and that there is one
pub with_there : (P : Row Kind → Type 0) (row : Option (Row Kind)) → IfSome row P
    → IfSome row (λ one. P one × (is_some row ≡ true))
with_there P None h = tt
with_there P (Some row) h = (h, refl)

-- of whatever stands there
pub whatever : {A : Type 0} (some : Option A) → IfSome some (λ one. Unit {0})
whatever None = tt
whatever (Some one) = tt

-- A MESSAGE THAT GOES by rules: the kinds of its rules, and the rules, which have a target each;
-- the table in which it is sound; what a rule makes of that table, and the header of what they
-- make.
pub record Goes (Rule : Type 0) : Type 0 where
  pub kinds : Kinds Rule
  pub are : AreKinds kinds
  pub all : List Rule
  pub own : AreOwn kinds all
  pub table : Table Kind
  pub make : Rule → Option (Item Kind)
  pub each : (rule : Rule) → IsMade kinds table.items make rule
  pub header : List (Row Kind)
  pub strict : Bool
  pub m : Message
  pub sound : IsSound judge table m

module _ {Rule : Type 0} (g : Goes Rule) where
  abbrev items : List (Item Kind)
  items = g.table.items

  abbrev pub at : ℕ → Said
  at tag = said_at g.m.cells (Tag tag)

  -- the table that the rules make, the message, and both contents
  abbrev pub target : Table Kind
  target = record {
    letter = g.table.letter;
    header = g.header;
    items = made g.kinds items g.make g.all;
    strict = g.strict;
  }

  abbrev pub w : Message
  w = by_rules g.kinds g.all g.m

  abbrev pub before : List Field
  before = content g.table g.m

  abbrev pub after : List Field
  after = content target w

  abbrev Found : Rule → Type 0
  Found rule = IsFound g.kinds g.all rule

  -- what is said where a rule is found
  pub said_is : (rule : Rule) (place : Place) → g.kinds.target rule ≡ At place
      → Found rule → said_at w.cells place ≡ g.kinds.said g.m rule
  said_is rule place is found =
      says g.kinds g.are g.all g.own g.m place
      ∙ ap (λ t. said_by g.kinds g.m (rule_at g.kinds t g.all)) (sym is)
      ∙ ap (said_by g.kinds g.m) found

  -- ---- what holds of what a rule makes

  abbrev HasGroups : Option (Item Kind) → Type 0
  HasGroups item = IfSome item (λ item. AllByRecursion (GroupSaid judge w) (groups_of item))

  abbrev pub AreGroups : Type 0
  AreGroups = AllByRecursion (GroupSaid judge w) (flat_map groups_of target.items)

  abbrev Says : Option (Item Kind) → Type 0
  Says item = IfSome item (IsItem judge after w)

  -- WHAT A RULE MAKES IS SAID: its groups, and where the groups of all rules are, the item
  pub record IsGood (item : Option (Item Kind)) : Type 0 where
    pub groups : HasGroups item
    pub said : AreGroups → Says item

  nothing : IsGood None
  nothing = record { groups = tt; said = λ groups. tt }

  -- the value of a tag that one row alone writes
  pub value_is : AreGroups → (rule : Rule) (tag : ℕ) → g.kinds.target rule ≡ At (Tag tag)
      → Found rule → is_alone tag target.items ≡ true → value_at tag after ≡ g.kinds.said g.m rule
  value_is groups rule tag is found alone =
      value_said judge w tag target.items alone groups ∙ said_is rule (Tag tag) is found

  -- ---- rows

  -- a row that says what a rule says
  row_good : (rule : Rule) (row : Row Kind) → g.kinds.target rule ≡ At (Tag row.tag) → Found rule
      → (AreGroups → IsSaid judge after row (g.kinds.said g.m rule)) → IsGood (Some (One row))
  row_good rule row is found h =
      let P : Said → Type 0 = λ said. IsSaid judge after row said in record {
        groups = tt;
        said = λ groups. subst P (sym (said_is rule (Tag row.tag) is found)) (h groups);
      }

  -- what the row of a tag becomes
  pub turned_good : (Fits : Row Kind → Type 0) (rule : Rule) (from : ℕ) (turn : Row Kind → Row Kind)
      → ((row : Row Kind) → g.kinds.target rule ≡ At (Tag (turn row).tag)) → Found rule
      → IfSome (row_of_tag from items) Fits
      → ((row : Row Kind) → Fits row → IsSaid judge before row (at from) → AreGroups
      → IsSaid judge after (turn row) (g.kinds.said g.m rule))
      → IsGood (turned turn (row_of_tag from items))
  turned_good Fits rule from turn is found fit h =
      elim (row_of_tag from items) as (λ row. row_of_tag from items ≡ row → IfSome row Fits
      → IsGood (turned turn row)) [
        | None ↦ λ e fit. nothing
        | Some row ↦ λ e fit. row_good rule (turn row) (is row) found
            (h row fit (source.row_at g.table g.m g.sound from row e))
      ] refl fit

  -- a row where this holds
  pub own_good : (rule : Rule) (b : Bool) (row : Row Kind) → g.kinds.target rule ≡ At (Tag row.tag)
      → Found rule → (b ≡ true → AreGroups → IsSaid judge after row (g.kinds.said g.m rule))
      → IsGood (item_if b (One row))
  own_good rule true row is found h = row_good rule row is found (h refl)
  own_good rule false row is found h = nothing

  -- a rule of one source has the row of that
  pub has_of : (tag : ℕ) → has_any (outline_of items) (Tag tag ∷ []) ≡ true
      → has_row items tag ≡ true
  has_of tag h = sym (row_there items tag) ∙ sym (has_one items (Tag tag)) ∙ h

  -- ---- parties and groups

  -- a party where this holds
  pub party_good : (b : Bool) (role : ℕ) → IsItem judge after w (Party role)
      → IsGood (item_if b (Party role))
  party_good true role h = record { groups = tt; said = λ groups. h }
  party_good false role h = nothing

  -- the lines of a rule's group
  pub lines_are : (rule : Rule) (count : ℕ) → g.kinds.target rule ≡ Grouped count → Found rule
      → lines_of count w.groups ≡ g.kinds.lines g.m rule
  lines_are rule count is found =
      has_lines_of g.kinds g.are g.all g.own g.m count
      ∙ ap (λ t. lines_by g.kinds g.m (rule_at g.kinds t g.all)) (sym is)
      ∙ ap (lines_by g.kinds g.m) found

  group_good : (group : RepeatingGroup Kind) → GroupSaid judge w group → IsGood (Some (Lines group))
  group_good group h = record { groups = (h, tt); said = λ groups. h }

  -- a group where this holds
  pub lines_good : (b : Bool) (group : RepeatingGroup Kind) → GroupSaid judge w group
      → IsGood (item_if b (Lines group))
  lines_good true group h = group_good group h
  lines_good false group h = nothing

  -- what the group of a count becomes
  pub carried_good : (Fits : RepeatingGroup Kind → Type 0) (rule : Rule) (count : ℕ)
      (turn : RepeatingGroup Kind → RepeatingGroup Kind)
      → ((group : RepeatingGroup Kind) → (turn group).count ≡ group.count)
      → g.kinds.target rule ≡ Grouped count → g.kinds.lines g.m rule ≡ lines_of count g.m.groups
      → Found rule → IfSome (group_at count items) Fits
      → ((group : RepeatingGroup Kind) (lines : List (List Cell)) → Fits group
      → IsGroup judge group lines → IsGroup judge (turn group) lines)
      → IsGood (turned_group turn (group_at count items))
  carried_good Fits rule count turn same is lines found fit h =
      elim (group_at count items) as (λ group. group_at count items ≡ group → IfSome group Fits
      → IsGood (turned_group turn group)) [
        | None ↦ λ e fit. nothing
        | Some group ↦ λ e fit.
            let P : List (List Cell) → Type 0 = λ lines. IsGroup judge (turn group) lines in
            let Q : ℕ → Type 0 = λ c. IsGroup judge (turn group) (lines_of c w.groups) in
            group_good (turn group) (subst Q (sym (same group ∙ count_is count items group e))
            (subst P (sym (lines_are rule count is found ∙ lines))
            (h group (lines_of count g.m.groups) fit
            (source.group_is g.table g.m g.sound count group e))))
      ] refl fit

  -- ---- the whole

  abbrev pub RuleGood : Rule → Type 0
  RuleGood rule = IsGood (g.make rule)

  abbrev makes : Rule → List (Item Kind)
  makes rule = option_to_list (g.make rule)

  pub groups_are : AllByRecursion RuleGood g.all → AreGroups
  groups_are h = each_whole (GroupSaid judge w) groups_of target.items
      (each_whole (λ item. AllByRecursion (GroupSaid judge w) (groups_of item)) makes
      g.all (each_by RuleGood _ (λ rule good. each_option _ (g.make rule)
      good.groups) g.all h))

  -- WHAT THE RULES MAKE IS SOUND
  pub sound_made : AllByRecursion RuleGood g.all → IsSound judge target w
  sound_made h =
      let same = outline_made g.kinds items g.make g.m (source.outline_is g.table g.m g.sound)
      g.each g.all in record {
        letter = g.sound.letter;
        places = ap (λ o. o.places) same;
        counts = ap (λ o. o.counts) same;
        items = each_whole (IsItem judge after w) makes g.all
            (each_by RuleGood _ (λ rule good. each_option (IsItem judge after w) (g.make rule)
            (good.said (groups_are h))) g.all h);
      }

  -- WHAT IS WRITTEN of it is the content of what they make,
  pub written : content_by g.kinds g.all g.m ≡ after
  written = content_made g.kinds items g.make g.m (source.outline_is g.table g.m g.sound) g.are
      g.all g.own g.each

  -- and is read again, where it says the month of its date.
  abbrev told_at : Place → Said
  told_at place = said_by g.kinds g.m (rule_at g.kinds (At place) g.all)

  pub gone : table_fits target [] ≡ true → is_one_of (flat_map item_tags target.items) 97 ≡ false
      → IsSound judge target w → (date month : Said) → told_at (Tag 541) ≡ date
      → told_at (Tag 200) ≡ month → IsMonthOf date month
      → IsGone target w (content_by g.kinds g.all g.m)
  gone fit bare sound date month is_date is_month of_date =
      let at = says g.kinds g.are g.all g.own g.m in
      gone_by target w (content_by g.kinds g.all g.m) fit bare sound written date month
      (at (Tag 541) ∙ is_date) (at (Tag 200) ∙ is_month) of_date
