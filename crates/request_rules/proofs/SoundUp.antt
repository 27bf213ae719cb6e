-- The table that the rules make of a table of FIX 4.2, and that what goes up of a sound message is
-- sound in it: one lemma for each kind of rule. Each table of FIX 5.0 SP2 is what they make of the
-- table of FIX 4.2 with its letter.
use Rattle.std.proofs.Common.{[], ◌∷◌, ◌≡◌, ℕ, Bool, true, List, codes, refl, Option, false}
use Rattle.std.proofs.Common.{Some, None, sym, ap, subst, ◌∙◌}
use Rattle.std.specs.Prelude.{◌&&◌, ◌==◌, IsSome, IfSome, ◌||◌, not}
use Rattle.std.specs.List.{AllByRecursion, list_any, list_all, slice_get}
use Rattle.field_groups.specs.Field.{is_soh, Field}
use Rattle.message_tables.specs.Tables.{Required, Optional, Lenient, When, Row, Item, One, Party}
use Rattle.message_tables.specs.Tables.{Lines, Message, Said, Role, Spells, Cell, lines_of}
use Rattle.message_tables.specs.Tables.{party_in, value_at, ◌>>=◌, code_of}
use Rattle.value_kinds.specs.ValueKind.{Code, Id, OneByte, MonthYear, Day}
use Rattle.row_values.specs.Kinds.{Kind, Byte, DayOf, MonthBeside, TimeBeside, row, Value, judge}
use Rattle.row_values.specs.Groups.{parties}
use Rattle.rows_fix42.specs.Header.{has_day, table as table42}
use Rattle.sound_laws.proofs.ContentValues.{is_alone}
use Rattle.sound_laws.proofs.RowsSaid.{row_of_tag, same_value, optional_said, lenient_said}
use Rattle.rule_rows.specs.ByRules.{has_any, outline_of}
use Rattle.rule_rows.proofs.Carried.{carried, row_carried}
use Rattle.rule_rows.proofs.Items.{has_row, item_if, item_made, may_go, IsRow, row_there, can_go}
use Rattle.rule_rows.proofs.Made.{IsMade, made}
use Rattle.rule_rows.specs.Rules.{By, Moved, Group}
use Rattle.rule_rows.proofs.Own.{each_with, make_with}
use Rattle.request_rules.specs.Rules.{Rule, Own, Listed, Parties, PartyOf, Month, Date, OrdType}
use Rattle.request_rules.specs.Rules.{Time, kinds, own_kinds, role_of, sources, up_rules, Who}
use Rattle.request_rules.specs.Rules.{Client, at, date_up, is_unlisted, tag_of, up_lack, up_message}
use Rattle.std.proofs.lemmas.Bool.{eqb-true}
use Rattle.rows_fix50.specs.Header.{header as header50, table as table50}
use Rattle.sound_laws.specs.Sound.{IsClear, IsGroup, IsItem, IsSound}
use Rattle.sound_laws.proofs.Each.{at_index, both, not_true, all_true}
use Rattle.sound_laws.proofs.SpelledAgain.{clear_joined}
use Rattle.rule_rows.specs.Rows.{group_at}
use Rattle.rule_rows.proofs.Looked.{IsFound, each_rule, no_lack}
use Rattle.rule_rows.proofs.Said as source
use Rattle.rule_rows.proofs.Said.{IsSpelled}
use Rattle.rule_rows.proofs.Sound.{AreGroups, Goes, RuleGood, after, before, carried_good, has_of}
use Rattle.rule_rows.proofs.Sound.{lines_are, lines_good, may_fit, own_good, party_good, said_is}
use Rattle.rule_rows.proofs.Sound.{sound_made, turned_good, value_is, w, whatever}
use Rattle.request_rules.proofs.KindsUp.{are_kinds, own}
use Rattle.request_rules.proofs.PartiesUp.{IsPartyId, parties_said, roles_said, id_for}
use Rattle.request_rules.proofs.DatesUp.{date_spelled, month_spelled}
use Rattle.request_rules.proofs.TermsUp.{are_listed, listed_said, type_said, time_said, code_listed}

-- ---- what a rule makes

abbrev pub beside : ℕ → Kind → Item Kind
beside tag kind = One (record { tag = tag; kind = kind; need = Lenient })

module _ (items : List (Item Kind)) where
  abbrev pub has_rule : Own → Bool
  has_rule rule = has_any (outline_of items) (sources rule)

  abbrev pub make_own : Own → Option (Item Kind)
  make_own (Listed from to listed) =
      item_if (has_rule (Listed from to listed)) (beside to (Byte listed))
  make_own Parties = item_if (has_rule Parties) (Lines parties)
  make_own (PartyOf who) = item_if (has_rule (PartyOf who)) (Party (role_of who))
  make_own Month = item_if (has_rule Month) (beside 200 (MonthBeside 541))
  make_own Date = item_if (has_rule Date) (One (row Optional 541 Day))
  make_own OrdType = item_if (has_rule OrdType) (One (row Required 40 (Code (codes "1234"))))
  make_own Time = item_if (has_rule Time) (beside 59 (TimeBeside 40))

  each_own : (rule : Own) → IsMade own_kinds items make_own rule
  each_own Parties = item_made (has_rule Parties) (Lines parties)
  each_own rule = item_made (has_rule rule) _

  abbrev pub make : Rule → Option (Item Kind)
  make rule = make_with own_kinds (carried true) (λ group. group) items make_own rule

  pub each_made : (rule : Rule) → IsMade kinds items make rule
  each_made rule = each_with own_kinds (carried true) (λ group. group) items make_own
      (λ to row. refl) (λ group. refl) each_own rule

  -- THE TABLE of FIX 5.0 SP2
  abbrev pub items_up : List (Item Kind)
  items_up = made kinds items make up_rules

  abbrev pub is_carried : Rule → Bool
  is_carried (Moved from to) = may_go (row_of_tag from items)
  is_carried (By (Listed from to listed)) = not (list_any is_soh listed) && (from == 47)
  is_carried rule = true

-- the rows of FIX 4.2 that FIX 5.0 SP2 says otherwise
abbrev pub month_row : Row Kind
month_row = row (When has_day) 200 MonthYear

abbrev pub day_row : Row Kind
day_row = record { tag = 205; kind = DayOf 200; need = Optional }

abbrev pub type_row : Row Kind
type_row = row Required 40 (Code (codes "12345B"))

abbrev pub time_row : Row Kind
time_row = row Optional 59 (Code (codes "0123456"))

abbrev pub capacity_row : Row Kind
capacity_row = row Optional 47 OneByte

abbrev pub own_rows : List (Row Kind)
own_rows = month_row ∷ day_row ∷ type_row ∷ time_row ∷ capacity_row ∷
    row Optional 109 Id ∷ row Optional 76 Id ∷ row Optional 439 Id ∷ []

-- A TABLE GOES UP: each of its rows that the rules carry is judged by itself, those that are said
-- otherwise are these, and what values are judged by has one place.
pub record GoesUp (items : List (Item Kind)) : Type 0 where
  pub carried : list_all (is_carried items) up_rules ≡ true
  pub rows : AllByRecursion (IsRow items) own_rows
  pub month_alone : is_alone 200 items ≡ true
  pub date_alone : is_alone 541 (items_up items) ≡ true
  pub timed : has_row items 59 ≡ has_row items 40
  pub type_alone : (not (has_row items 40) || is_alone 40 (items_up items)) ≡ true

-- ---- a sound message of a table that goes up

module _ (letter : ℕ) (items : List (Item Kind)) (goes : GoesUp items) (m : Message)
    (sound : IsSound judge (table42 letter items) m) where
  abbrev pub g : Goes Rule
  g = record {
    kinds = kinds;
    are = are_kinds;
    all = up_rules;
    own = own;
    table = table42 letter items;
    make = make items;
    each = each_made items;
    header = header50;
    strict = false;
    m = m;
    sound = sound;
  }

  abbrev fields42 : List Field
  fields42 = before g

  abbrev fields50 : List Field
  fields50 = after g

  -- ---- what FIX 4.2 says

  abbrev Spelled : Kind → ℕ → Type 0
  Spelled kind tag = IsSpelled fields42 kind (at m tag)

  own_row : (row : Row Kind) (i : ℕ) → slice_get own_rows i ≡ Some row → IsRow items row
  own_row row i at = at_index (IsRow items) i own_rows row at goes.rows

  spelled : (row : Row Kind) (i : ℕ) → slice_get own_rows i ≡ Some row → Spelled row.kind row.tag
  spelled row i at = source.spelled_by (table42 letter items) m sound row (own_row row i at)

  pub month42 : Spelled (Value MonthYear) 200
  month42 = spelled month_row 0 refl

  pub day42 : Spelled (DayOf 200) 205
  day42 = spelled day_row 1 refl

  type42 : Spelled (Value (Code (codes "12345B"))) 40
  type42 = spelled type_row 2 refl

  pub time42 : Spelled (Value (Code (codes "0123456"))) 59
  time42 = spelled time_row 3 refl

  has_type : has_row items 40 ≡ true → IsSome (at m 40)
  has_type there =
      source.is_there (table42 letter items) m sound type_row refl there (own_row type_row 2 refl)

  party_id : (tag : ℕ) → Spelled (Value Id) tag → IsPartyId (at m tag)
  party_id tag h = by (at m tag) h.spelled h.clear
    where
      by : (said : Said) → IfSome said (λ text. judge fields42 (Value Id) text ≡ Spells text)
          → IfSome said IsClear → IsPartyId said
      by None s c = tt
      by (Some text) s c = (same_value fields42 [] Id (Some text) s, c)

  at200 : value_at 200 fields42 ≡ at m 200
  at200 = source.value_is (table42 letter items) m sound 200 goes.month_alone

  -- ---- the parties

  parties_are : lines_of 453 (w g).groups ≡ kinds.lines m (By Parties)
  parties_are = lines_are g (By Parties) 453 refl refl

  three : IsGroup judge parties (lines_of 453 (w g).groups)
  three =
      let P : List (List Cell) → Type 0 = λ lines. IsGroup judge parties lines in
      subst P (sym parties_are) (parties_said (at m 109) (at m 76) (at m 439)
      (party_id 109 (spelled (row Optional 109 Id) 5 refl))
      (party_id 76 (spelled (row Optional 76 Id) 6 refl))
      (party_id 439 (spelled (row Optional 439 Id) 7 refl)))

  role_there : (who : Who) → IsFound kinds up_rules (By (PartyOf who))
      → IsItem judge fields50 (w g) (Party (role_of who))
  role_there who found =
      said_is g (By (PartyOf who)) (Role (role_of who)) refl found
      ∙ id_is who ∙ roles_said (at m 109) (at m 76) (at m 439) who
      ∙ ap (party_in (role_of who)) (sym parties_are)
    where
      id_is : (who : Who) → at m (tag_of who) ≡ id_for who (at m 109) (at m 76) (at m 439)
      id_is Client = refl
      id_is who = refl

  -- ---- rows

  date50 : AreGroups g → IsSpelled fields50 (Value Day) (date_up (at m 200) (at m 205))
  date50 groups = by (at m 200) (at m 205) at200 month42 day42
    where
      by : (month day : Said) → value_at 200 fields42 ≡ month
          → IsSpelled fields42 (Value MonthYear) month → IsSpelled fields42 (DayOf 200) day
          → IsSpelled fields50 (Value Day) (date_up month day)
      by None day at mo d = record { spelled = tt; clear = tt }
      by (Some month) None at mo d = record { spelled = tt; clear = tt }
      by (Some month) (Some day) at mo d = record {
        spelled = date_spelled fields42 fields50 month day at mo.spelled d.spelled;
        clear = clear_joined month day mo.clear d.clear;
      }

  -- OrdType stands where one of the places of Time does
  timed : has_rule items Time ≡ true → has_row items 40 ≡ true
  timed h = by (has_row items 40) (has_row items 59) goes.timed
      (sym ((λ i. row_there items 40 i || (row_there items 59 i || false))) ∙ h)
    where
      by : (a b : Bool) → b ≡ a → (a || (b || false)) ≡ true → a ≡ true
      by true b e h = refl
      by other b e h = absurd cc

  -- the code of a rule that is listed
  listed_case : (from to : ℕ) (listed : List ℕ) → (from == 47) ≡ true
      → kinds.lack m (By (Listed from to listed)) ≡ None → are_listed listed (at m from) ≡ true
  listed_case from to listed ok lack =
      let P : ℕ → Type 0 = λ tag. Spelled (Value OneByte) tag in
      let capacity : Spelled (Value OneByte) from =
      subst P (sym (eqb-true from 47 ok)) (spelled capacity_row 4 refl) in
      code_listed fields42 listed (at m from) capacity.spelled
      (no_lack (is_unlisted listed (at m from >>= code_of)) from lack)

  -- ONE LEMMA FOR EACH KIND OF RULE
  rule_up : (rule : Rule) → IsFound kinds up_rules rule → is_carried items rule ≡ true
      → kinds.lack m rule ≡ None → RuleGood g rule
  rule_up (Moved from to) found ok lack =
      turned_good g (λ row. can_go row ≡ true) (Moved from to) from (carried true to)
      (λ row. refl) found (may_fit (row_of_tag from items) ok)
      (λ row fit said groups. row_carried true fields42 fields50 to row (at m from) fit said)
  rule_up (By (Listed from to listed)) found ok lack =
      let p = both (not (list_any is_soh listed)) (from == 47) ok in
      own_good g (By (Listed from to listed)) (has_rule items (Listed from to listed))
      (record { tag = to; kind = Byte listed; need = Lenient }) refl found (λ there groups.
      listed_said fields50 to listed (at m from) (not_true (list_any is_soh listed) p.0)
      (listed_case from to listed p.1 lack))
  rule_up (By Parties) found ok lack = lines_good g (has_rule items Parties) parties three
  rule_up (By (PartyOf who)) found ok lack =
      party_good g (has_rule items (PartyOf who)) (role_of who) (role_there who found)
  rule_up (By Month) found ok lack =
      own_good g (By Month) (has_rule items Month)
      (record { tag = 200; kind = MonthBeside 541; need = Lenient }) refl found (λ there groups.
      lenient_said fields50 200 (MonthBeside 541) (at m 200)
      (month_spelled fields42 fields50 (at m 200) (at m 205)
      (value_is g groups (By Date) 541 refl refl goes.date_alone) month42.spelled
      (date50 groups).spelled)
      month42.clear)
  rule_up (By Date) found ok lack =
      own_good g (By Date) (has_rule items Date) (row Optional 541 Day) refl found (λ there groups.
      optional_said fields50 541 (Value Day) (date_up (at m 200) (at m 205))
      (date50 groups).spelled (date50 groups).clear)
  rule_up (By OrdType) found ok lack =
      own_good g (By OrdType) (has_rule items OrdType) (row Required 40 (Code (codes "1234"))) refl found
      (λ there groups.
      type_said fields50 fields42 (at m 40) (has_type (has_of g 40 there)) type42.spelled)
  rule_up (By Time) found ok lack =
      own_good g (By Time) (has_rule items Time)
      (record { tag = 59; kind = TimeBeside 40; need = Lenient }) refl found (λ there groups.
      let alone : is_alone 40 (items_up items) ≡ true = rw (timed there) at goes.type_alone in
      time_said fields50 fields42 (at m 59) time42.spelled (at m 40) (has_type (timed there))
      type42.spelled (value_is g groups (By OrdType) 40 refl refl alone))
  rule_up (Group count) found ok lack =
      carried_good g (λ group. Unit {0}) (Group count) count (λ group. group) (λ group. refl) refl
      refl found (whatever (group_at count items)) (λ group lines fit said. said)

  -- WHAT GOES UP IS SOUND in the table that goes up.
  pub sound_up : up_lack m ≡ None → IsSound judge (table50 letter (items_up items)) (up_message m)
  sound_up lack = sound_made g
      (each_rule kinds (RuleGood g) (λ rule. is_carried items rule ≡ true) up_rules m rule_up own
      (all_true (is_carried items) up_rules goes.carried) lack)
