-- The kinds of rules of both directions, the table that rules make of a table, and what they ask of
-- it. The tables of requests of FIX 5.0 SP2 are what the rules make of those of FIX 4.4, and the
-- tables of reports of FIX 4.4 what they make of those of FIX 5.0 SP2.
use Rattle.std.proofs.Common.{refl}
use Rattle.std.specs.Prelude.{not, ◌&&◌, is_some, ◌≡◌, ℕ, Bool, true, false, ◌||◌, ◌==◌, List, []}
use Rattle.std.specs.Prelude.{◌∷◌, Option, IfSome, Some, None, codes, if◌then◌else◌}
use Rattle.std.specs.List.{AllByRecursion, flat_map, list_all, list_any}
use Rattle.field_groups.specs.Field.{is_soh}
use Rattle.message_tables.specs.Tables.{Message, Said, Tag, Is, Need, Required, Optional, Lenient}
use Rattle.message_tables.specs.Tables.{When, Row, Item, One, Party, Lines, RepeatingGroup, Spells}
use Rattle.message_tables.specs.Tables.{Table, is_listed, is_one_of}
use Rattle.value_kinds.specs.ValueKind.{Code, Known, OneByte, Reason, Text}
use Rattle.order_meaning.specs.Report.{or_known}
use Rattle.row_values.specs.Kinds.{Kind, Value, Byte, TimeBeside, judge, row}
use Rattle.row_values.specs.Groups.{parties}
use Rattle.rows_fix42.specs.Header.{header as header42}
use Rattle.rows_fix50.specs.Header.{header as header50}
use Rattle.sound_laws.specs.Sound.{IsClear}
use Rattle.sound_laws.proofs.Each.{either, both}
use Rattle.sound_laws.proofs.ContentValues.{is_alone, writes}
use Rattle.sound_laws.proofs.Judged50.{ours_kind}
use Rattle.sound_laws.proofs.RowsSaid.{row_of_tag}
use Rattle.sound_laws.proofs.Stages.{item_tags}
use Rattle.sound_laws.proofs.TableFits.{table_fits}
use Rattle.rule_rows.specs.ByRules.{has_place, lack_if, outline, At, outline_of}
use Rattle.rule_rows.specs.Rules.{By, Same, Moved, Group}
use Rattle.rule_rows.specs.Rows.{group_at}
use Rattle.rule_rows.proofs.Looked.{AreKinds, AreOwn, absent, IsFound, rule_at, said_by}
use Rattle.rule_rows.proofs.Own.{are_with, each_with, make_with}
use Rattle.rule_rows.proofs.Items.{has_row, item_if, item_made, turned, turned_made, IsRow}
use Rattle.rule_rows.proofs.Items.{is_plain, is_value}
use Rattle.rule_rows.proofs.Made.{IsMade, made}
use Rattle.rule_rows.proofs.Carried.{all_can_go, carried, carried_rows, need_by}
use Rattle.request_rules.specs.Rules.{role_of}
use Rattle.report_rules.specs.Rules.{at}
use Rattle.report_rules.proofs.RowsDown.{is_other}
use Rattle.translate_fix44.specs.Rules.{Own, Rule, Else, Turned, AtClose, Parties, PartyOf, Within}
use Rattle.translate_fix44.specs.Rules.{Told, down_rules, else_said, has, kinds, own_kinds}
use Rattle.translate_fix44.specs.Rules.{own_lack, own_lines, own_said, sources, up_rules}

-- ---- where the source has nothing, a rule says nothing, and lacks nothing

no_place : (b : Bool) (said known : Said) (tag : ℕ) → b ≡ false → (else_said b said known ≡ None)
    × (lack_if (b && not (is_some (or_known said known))) tag ≡ None)
no_place false said known tag h = (refl, refl)
no_place b said known tag h = absurd cc

nothing : (m : Message) (rule : Own) → has (outline m) rule ≡ false
    → (own_said m rule ≡ None) × (own_lines m rule ≡ []) × (own_lack m rule ≡ None)
nothing m (Else tag known) h =
    let none = no_place (has_place (outline m) (Tag tag)) (at m tag) known tag
    (either (has_place (outline m) (Tag tag)) false h).0 in
    (none.0, refl, none.1)
nothing m Parties h =
    let none = absent m (sources Parties) h in rw (none.0, none.1.0, none.1.1.0) (refl, refl, refl)
nothing m Told h =
    let none = absent m (sources Told) h in
    rw (none.0, none.1.0, none.1.1.0, none.1.1.1.0) (refl, refl, refl)
nothing m rule h = let none = absent m (sources rule) h in rw none.0 (refl, refl, refl)

pub are_kinds : AreKinds kinds
are_kinds = are_with own_kinds (record {
  none = λ m rule h. (nothing m rule h).0;
  no_lines = λ m rule h. (nothing m rule h).1;
})

pub lacks_none : (m : Message) (rule : Rule) → kinds.has (outline m) rule ≡ false
    → kinds.lack m rule ≡ None
lacks_none m (By rule) h = (nothing m rule h).2
lacks_none m rule h = refl

pub up_own : AreOwn kinds up_rules
up_own = record { apart = refl; found = refl }

pub report_own : AreOwn kinds (down_rules (Same 41))
report_own = record { apart = refl; found = refl }

pub reject_own : (known : Said) → AreOwn kinds (down_rules (By (Else 41 known)))
reject_own known = record { apart = refl; found = refl }

-- ---- what a rule makes of a row

abbrev pub carried_group : Bool → RepeatingGroup Kind → RepeatingGroup Kind
carried_group up group = record {
  count = group.count;
  rows = carried_rows up group.rows;
  skipped = group.skipped;
}

-- a code of a list
abbrev pub listed_kind : List ℕ → Kind → Kind
listed_kind listed (Value OneByte) = Byte listed
listed_kind listed kind = Value (Code listed)

abbrev pub coded : (up : Bool) → ℕ → List ℕ → Row Kind → Row Kind
coded up tag listed row = record {
  tag = tag;
  kind = listed_kind listed row.kind;
  need = need_by row.need up true;
}

abbrev pub demanded : ℕ → Row Kind → Row Kind
demanded tag row = record { tag = tag; kind = row.kind; need = Required }

abbrev pub own_row : ℕ → Kind → Need → Row Kind → Row Kind
own_row tag kind need row = record { tag = tag; kind = kind; need = need }

-- TimeInForce of FIX 4.4
abbrev pub time_row : Row Kind
time_row = row Optional 59 (Code (codes "01234567"))

-- ---- what a rule asks of a row

-- a need that is carried: none that another field asks for, but for an ExecType other than I
abbrev pub is_typed : Need → Bool
is_typed (When ((Is tag listed ∷ []) ∷ [])) = tag == 150 && not (is_one_of listed 73)
is_typed need = false

abbrev pub is_kept : Need → Bool
is_kept need = is_plain need || is_typed need

abbrev pub is_code_kind : Kind → Bool
is_code_kind (Value (Code listed)) = true
is_code_kind (Value (Known listed)) = true
is_code_kind (Value OneByte) = true
is_code_kind kind = false

abbrev pub is_carried : Row Kind → Bool
is_carried row = is_kept row.need && ours_kind true row.kind

abbrev pub is_coded : Row Kind → Bool
is_coded row = is_plain row.need && is_code_kind row.kind

-- what holds of that which stands there, if anything does
abbrev pub if_any : {A : Type 0} → (A → Bool) → Option A → Bool
if_any test None = true
if_any test (Some one) = test one

-- a row whose values are judged by themselves, of which what is known is one
abbrev pub IsElse : Said → Row Kind → Type 0
IsElse known row = (is_value row.kind ≡ true)
    × IfSome known (λ text. (judge [] row.kind text ≡ Spells text) × IsClear text)

module _ (items : List (Item Kind)) where
  abbrev pub has_rule : Own → Bool
  has_rule rule = has (outline_of items) rule

  -- WHAT A RULE ASKS of the table: what is carried passes a test
  abbrev pub passes : Rule → Bool
  passes (Moved from to) = if_any is_carried (row_of_tag from items)
  passes (Group count) = if_any (λ group. all_can_go group.rows) (group_at count items)
  passes (By rule) = true

  abbrev pub Asks : Own → Type 0
  Asks (Else tag known) = IfSome (row_of_tag tag items) (IsElse known)
  Asks (Turned tag listed turns) =
      (if_any is_coded (row_of_tag tag items) && not (list_any is_soh listed)) ≡ true
  Asks AtClose = IsRow items time_row
  Asks Parties = has_rule Parties ≡ true → group_at 453 items ≡ Some parties
  Asks (PartyOf who) = Unit {0}
  Asks (Within tag last other) = IsRow items (row Optional tag Reason) × (is_other other ≡ true)
  Asks Told = IsRow items (row Optional 58 Text) × IsRow items (row Optional 103 Reason)
      × IsRow items (row Optional 378 Reason) × IsRow items (row Optional 102 Reason)

  abbrev pub Fits : Rule → Type 0
  Fits (By rule) = Asks rule
  Fits rule = passes rule ≡ true

  -- what the rules of its own ask, in their order
  abbrev pub OwnAsk : List Rule → Type 0
  OwnAsk [] = Unit {0}
  OwnAsk (By rule ∷ rules) = Asks rule × OwnAsk rules
  OwnAsk (rule ∷ rules) = OwnAsk rules

  pub each_fits : (rules : List Rule) → list_all passes rules ≡ true → OwnAsk rules
      → AllByRecursion Fits rules
  each_fits [] pass ask = tt
  each_fits (By rule ∷ rules) pass ask = (ask.0, each_fits rules pass ask.1)
  each_fits (rule ∷ rules) pass ask =
      let p = both (passes rule) (list_all passes rules) pass in
      (p.0, each_fits rules p.1 ask)

module _ (up : Bool) (items : List (Item Kind)) where
  -- WHAT A RULE MAKES of a table
  abbrev pub make_own : Own → Option (Item Kind)
  make_own (Else tag known) = turned (demanded tag) (row_of_tag tag items)
  make_own (Turned tag listed turns) = turned (coded up tag listed) (row_of_tag tag items)
  make_own AtClose = turned (own_row 59 (TimeBeside 40) Lenient) (row_of_tag 59 items)
  make_own (Within tag last other) =
      turned (own_row tag (Value Reason) Optional) (row_of_tag tag items)
  make_own Parties = item_if (has_rule items Parties) (Lines parties)
  make_own (PartyOf who) = item_if (has_rule items (PartyOf who)) (Party (role_of who))
  make_own Told = item_if (has_rule items Told) (One (row Optional 58 Text))

  each_own : (rule : Own) → IsMade own_kinds items make_own rule
  each_own (Else tag known) = turned_made items (demanded tag) tag tag (λ row. refl)
  each_own (Turned tag listed turns) =
      turned_made items (coded up tag listed) tag tag (λ row. refl)
  each_own AtClose = turned_made items (own_row 59 (TimeBeside 40) Lenient) 59 59 (λ row. refl)
  each_own (Within tag last other) =
      turned_made items (own_row tag (Value Reason) Optional) tag tag (λ row. refl)
  each_own rule = item_made (has_rule items rule) _

  abbrev pub make : Rule → Option (Item Kind)
  make rule = make_with own_kinds (carried up) (carried_group up) items make_own rule

  pub each_made : (rule : Rule) → IsMade kinds items make rule
  each_made rule = each_with own_kinds (carried up) (carried_group up) items make_own
      (λ to row. refl) (λ group. refl) each_own rule

  abbrev pub items_by : List Rule → List (Item Kind)
  items_by rules = made kinds items make rules

  -- a tag that one row writes, of the table and of that which the rules make, or none of either
  abbrev pub is_beside : List Rule → ℕ → Bool
  is_beside all tag = (is_alone tag items && is_alone tag (items_by all))
      || not (list_any (writes tag) items || list_any (writes tag) (items_by all))

-- ---- A TABLE THAT GOES BY RULES

-- the table of a message that goes, and of what goes
abbrev pub table_from : (up : Bool) → ℕ → List (Item Kind) → Table Kind
table_from up letter items = record {
  letter = letter;
  header = if up then header42 else header50;
  items = items;
  strict = up;
}

abbrev pub table_to : (up : Bool) → (all : List Rule) → ℕ → List (Item Kind) → Table Kind
table_to up all letter items = table_from (not up) letter (items_by up items all)

-- the tests of such a table: what is carried can be, what values are judged by has one place, and
-- what the rules make is read again
abbrev pub tests : (up : Bool) → (all : List Rule) → ℕ → List (Item Kind) → List Bool
tests up all letter items =
    list_all (passes items) all ∷ is_beside up items all 541 ∷ is_beside up items all 40
    ∷ is_beside up items all 150
    ∷ (not (has_row items 59) || is_alone 40 (items_by up items all))
    ∷ table_fits (table_to up all letter items) []
    ∷ not (is_one_of (flat_map item_tags (items_by up items all)) 97) ∷ []

pub record GoesBy (up : Bool) (all : List Rule) (letter : ℕ) (items : List (Item Kind)) : Type 0
  where
    pub passed : list_all (λ b. b) (tests up all letter items) ≡ true
    pub asked : OwnAsk items all

-- RULES BY WHICH MESSAGES GO: they have a target each, and what values are judged by is said alike.
pub record AreWay (all : List Rule) : Type 0 where
  pub own : AreOwn kinds all
  pub parties : IsFound kinds all (By Parties)
  pub date : (m : Message) → said_by kinds m (rule_at kinds (At (Tag 541)) all) ≡ at m 541
  pub month : (m : Message) → said_by kinds m (rule_at kinds (At (Tag 200)) all) ≡ at m 200
  pub close : (m : Message) → is_listed (codes "12") (at m 40) ≡ true
      → is_listed (codes "12") (said_by kinds m (rule_at kinds (At (Tag 40)) all)) ≡ true
  pub types : (m : Message) (listed : List ℕ) → is_one_of listed 73 ≡ false
      → is_listed listed (said_by kinds m (rule_at kinds (At (Tag 150)) all)) ≡ true
      → is_listed listed (at m 150) ≡ true
