-- What goes down by each kind of rule is sound in the table that the rules make of the table of
-- the source. The tables of reports of FIX 4.2 are what they make of those of FIX 5.0 SP2.
use Rattle.std.specs.Prelude.{◌≡◌, ℕ, Bool, true, false, List, [], ◌∷◌, Option, Some, IfSome, codes}
use Rattle.std.specs.Prelude.{IsSome, not, drop, ◌==◌, is_some, if◌then◌else◌}
use Rattle.std.specs.List.{AllByRecursion}
use Rattle.std.proofs.Common.{refl, take, None, sym, ap, subst, ◌∙◌, option_map, unwrap_or}
use Rattle.message_tables.specs.Tables.{Condition, Is, Need, Required, Optional, Lenient, When, Row}
use Rattle.message_tables.specs.Tables.{RepeatingGroup, Item, One, Role, Message, Said, Tag, Spells}
use Rattle.message_tables.specs.Tables.{◌>>=◌, code_of, code_if, code_in, has_tag, is_needed}
use Rattle.message_tables.specs.Tables.{is_one_of, said_at, value_at}
use Rattle.value_kinds.specs.ValueKind.{Code, Known, Id, Text, Reason, MonthYear, Day, code_text}
use Rattle.value_kinds.specs.ValueKind.{number_of_two}
use Rattle.row_values.specs.Kinds.{Kind, DayOf, MonthBeside, TimeBeside, row, Value, judge}
use Rattle.row_values.specs.Groups.{parties}
use Rattle.rows_fix42.specs.Header.{has_day, header as header42, table as table42}
use Rattle.reports_fix42.specs.Reports.{is_about_another, is_execution}
use Rattle.sound_laws.proofs.ContentValues.{is_alone}
use Rattle.sound_laws.proofs.Each.{none_there}
use Rattle.sound_laws.proofs.RowsSaid.{row_of_tag, same_value, optional_said, needed_said}
use Rattle.sound_laws.proofs.RowsSaid.{code_said}
use Rattle.rule_rows.specs.ByRules.{has_place, outline_of, At, by_rules, lack_by}
use Rattle.rule_rows.specs.Rows.{group_at}
use Rattle.rule_rows.proofs.Items.{has_row, is_value, item_if, item_made, may_go, turned}
use Rattle.rule_rows.proofs.Items.{turned_made, IsRow, has_one, can_go}
use Rattle.rule_rows.proofs.Looked.{IsFound, AreOwn, each_rule}
use Rattle.rule_rows.proofs.Made.{IsMade, made}
use Rattle.rule_rows.specs.Rules.{By, Moved, Group}
use Rattle.rule_rows.proofs.Own.{each_with, make_with}
use Rattle.rule_rows.proofs.Carried.{carried, carried_rows, all_can_go, row_carried, lines_carried}
use Rattle.rule_rows.proofs.Carried.{is_known_of}
use Rattle.report_rules.specs.Rules.{Rule, Own, OrKnown, PartyOf, ExecId, TransType, ExecType}
use Rattle.report_rules.specs.Rules.{OrdStatus, Another, Traded, Within, Told, Month, DayOfDate}
use Rattle.report_rules.specs.Rules.{OrdType, Time, has, kinds, own_kinds, at, coded, exec_type}
use Rattle.report_rules.specs.Rules.{is_fill, lacks_type, status_if, told, trans_type, works_on}
use Rattle.report_rules.specs.Rules.{own_said, party}
use Rattle.report_rules.specs.Down.{IsId, IsOrdinary}
use Rattle.report_rules.proofs.Codes.{exec_types, statuses, AreCodes, AreTerms, about_another}
use Rattle.report_rules.proofs.Codes.{among_said, are_codes, code_among, executes}
use Rattle.report_rules.proofs.Codes.{is_beside, so, terms_are, time_among, typed_by}
use Rattle.report_rules.proofs.RowsDown.{is_other, IsTold, all_told, clear_back, id_said, ids_said}
use Rattle.report_rules.proofs.RowsDown.{known_said, reason_said, role_id, text_said}
use Rattle.field_groups.specs.Field.{Field}
use Rattle.message_tables.specs.Content.{content}
use Rattle.row_values.specs.Amounts.{amount_in}
use Rattle.std.specs.Str.Parse.{digits_value}
use Rattle.rows_fix50.specs.Header.{month_by, table as table50}
use Rattle.sound_laws.specs.Sound.{IsSaid, IsSound}
use Rattle.rule_rows.proofs.Said as source
use Rattle.rule_rows.proofs.Said.{IsSpelled}
use Rattle.rule_rows.proofs.Sound.{AreGroups, Goes, IsGood, RuleGood, carried_good, has_of, may_fit}
use Rattle.rule_rows.proofs.Sound.{own_good, sound_made, turned_good, value_is}
use Rattle.report_rules.proofs.DatesDown.{day_spelled, day_value, month_spelled, month_there}
use Rattle.report_rules.proofs.DatesDown.{only_test}
use Rattle.report_rules.proofs.KindsDown.{are_kinds}

-- ---- what a rule makes of a row

-- a row that other fields need
abbrev pub needed : ℕ → Condition → Row Kind → Row Kind
needed tag condition row = record { tag = tag; kind = row.kind; need = When condition }

-- a group that is carried, in whose lines nothing is passed over
abbrev pub carried_group : RepeatingGroup Kind → RepeatingGroup Kind
carried_group group = record {
  count = group.count;
  rows = carried_rows false group.rows;
  skipped = [];
}

abbrev pub by_type : List ℕ → Need
by_type listed = When ((Is 150 listed ∷ []) ∷ [])

-- THE ROWS OF FIX 4.2 that say otherwise what FIX 5.0 SP2 says
abbrev pub own_row : Own → Row Kind
own_row (PartyOf role to) = row Optional to Id
own_row ExecId = row Required 17 Id
own_row TransType = row Required 20 (Code (codes "0123"))
own_row ExecType = row Required 150 (Code statuses)
own_row OrdStatus = row Required 39 (Code statuses)
own_row (Within tag last other) = row Optional tag Reason
own_row Told = row Optional 58 Text
own_row Month = row (When has_day) 200 MonthYear
own_row DayOfDate = record { tag = 205; kind = DayOf 200; need = Optional }
own_row OrdType = row Optional 40 (Code (codes "12345B"))
own_row Time = row Optional 59 (Code (codes "0123456"))
own_row rule = row Required 41 Id

-- rows of the source that are judged beside another one
abbrev pub month_row : Row Kind
month_row = record { tag = 200; kind = MonthBeside 541; need = Lenient }

abbrev pub time_row : Row Kind
time_row = record { tag = 59; kind = TimeBeside 40; need = Lenient }

module _ (items : List (Item Kind)) where
  abbrev pub has_rule : Own → Bool
  has_rule rule = has (outline_of items) rule

  -- WHAT A RULE MAKES of a table
  abbrev pub make_own : Own → Option (Item Kind)
  make_own (Another tag) = turned (needed tag is_about_another) (row_of_tag tag items)
  make_own (Traded tag) = turned (needed tag is_execution) (row_of_tag tag items)
  make_own rule = item_if (has_rule rule) (One (own_row rule))

  each_own : (rule : Own) → IsMade own_kinds items make_own rule
  each_own (Another tag) = turned_made items (needed tag is_about_another) tag tag (λ row. refl)
  each_own (Traded tag) = turned_made items (needed tag is_execution) tag tag (λ row. refl)
  each_own rule = item_made (has_rule rule) (One (own_row rule))

  abbrev pub make : Rule → Option (Item Kind)
  make rule = make_with own_kinds (carried false) carried_group items make_own rule

  pub each_made : (rule : Rule) → IsMade kinds items make rule
  each_made rule = each_with own_kinds (carried false) carried_group items make_own
      (λ to row. refl) (λ group. refl) each_own rule

  abbrev pub items_down : List Rule → List (Item Kind)
  items_down rules = made kinds items make rules

  -- ---- what a rule asks of the table

  abbrev pub NeedsType : ℕ → List ℕ → Type 0
  NeedsType tag listed = IfSome (row_of_tag tag items)
      (λ row. (is_value row.kind ≡ true) × (row.need ≡ by_type listed) × (has_row items 150 ≡ true))

  abbrev pub Fits : Rule → Type 0
  Fits (Moved from to) = may_go (row_of_tag from items) ≡ true
  Fits (By (OrKnown known)) = IsRow items (row Optional 41 Id) × IfSome known IsId
  Fits (By (PartyOf role to)) =
      has_place (outline_of items) (Role role) ≡ true → group_at 453 items ≡ Some parties
  Fits (Group count) =
      IfSome (group_at count items) (λ group. all_can_go group.rows ≡ true)
  Fits (By ExecId) = IsRow items (row Required 17 Id)
  Fits (By (Another tag)) = NeedsType tag (codes "GH")
  Fits (By (Traded tag)) = NeedsType tag (codes "FG")
  Fits (By (Within tag last other)) =
      IsRow items (row Optional tag Reason) × (is_other other ≡ true)
  Fits (By Told) = IsRow items (row Optional 58 Text) × IsRow items (row Optional 103 Reason)
      × IsRow items (row Optional 378 Reason) × IsRow items (row Optional 102 Reason)
  Fits (By Month) = IsRow items month_row
  Fits rule = Unit {0}

-- A TABLE GOES DOWN: it fits each rule, and what values are judged by has one place.
pub record GoesDown (all : List Rule) (items : List (Item Kind)) : Type 0 where
  pub fits : AllByRecursion (Fits items) all
  pub exec_type : IsRow items (row Required 150 (Known exec_types))
  pub status : IsRow items (row Required 39 (Known statuses))
  pub date : IsRow items (row Optional 541 Day)
  pub type : IsRow items (row Lenient 40 (Code (codes "1234")))
  pub time : IsRow items time_row
  pub both : has_row items 150 ≡ true → has_row items 39 ≡ true
  pub typed : has_row items 150 ≡ true → (is_alone 150 items ≡ true)
      × (is_alone 20 (items_down items all) ≡ true) × (is_alone 150 (items_down items all) ≡ true)
  pub timed : has_row items 59 ≡ true → is_alone 40 items ≡ true
  pub dates : has_row items 541 ≡ has_row items 200
  pub dated : has_row items 200 ≡ true → (is_alone 541 items ≡ true)
      × (is_alone 205 (items_down items all) ≡ true) × (is_alone 200 (items_down items all) ≡ true)
  pub types : IsFound kinds all (By TransType)
  pub execs : IsFound kinds all (By ExecType)
  pub months : IsFound kinds all (By Month)
  pub days : IsFound kinds all (By DayOfDate)

-- a value that other fields need
same_kind : (before after : List Field) (kind : Kind) → is_value kind ≡ true → (said : Said)
    → IfSome said (λ text. judge before kind text ≡ Spells text)
    → IfSome said (λ text. judge after kind text ≡ Spells text)
same_kind before after (Value kind) v said h = same_value before after kind said h
same_kind before after kind v said h = absurd cc

-- ---- a sound message of a table that goes down

module _ (all : List Rule) (own : AreOwn kinds all) (letter : ℕ) (items : List (Item Kind))
    (goes : GoesDown all items) (m : Message) (sound : IsSound judge (table50 letter items) m)
    (month : said_at m.cells (Tag 200) ≡ month_by (said_at m.cells (Tag 541)) (said_at m.cells (Tag 200)))
  where
    abbrev pub g : Goes Rule
    g = record {
      kinds = kinds;
      are = are_kinds;
      all = all;
      own = own;
      table = table50 letter items;
      make = make items;
      each = each_made items;
      header = header42;
      strict = true;
      m = m;
      sound = sound;
    }

    abbrev before : List Field
    before = content (table50 letter items) m

    abbrev after : List Field
    after = content (table42 letter (items_down items all)) (by_rules kinds all m)

    -- ---- what the source says

    spelled : (row : Row Kind) → IsRow items row → IsSpelled before row.kind (at m row.tag)
    spelled row is = source.spelled_by (table50 letter items) m sound row is

    is_there : (row : Row Kind) → row.need ≡ Required → has_row items row.tag ≡ true
        → IsRow items row → IsSome (at m row.tag)
    is_there row need there is = source.is_there (table50 letter items) m sound row need there is

    value_before : (tag : ℕ) → is_alone tag items ≡ true → value_at tag before ≡ at m tag
    value_before tag alone = source.value_is (table50 letter items) m sound tag alone

    -- ---- what the tables ask of a message

    no_row : (tag : ℕ) → has_row items tag ≡ false → at m tag ≡ None
    no_row tag e = source.no_row (table50 letter items) m sound tag (none_there _ e)

    terms : AreTerms (at m 40) (at m 59)
    terms =
        let type = code_among before (codes "1234") (at m 40)
        (spelled (row Lenient 40 (Code (codes "1234"))) goes.type).spelled in
        elim (has_row items 59) as (λ b. has_row items 59 ≡ b → AreTerms (at m 40) (at m 59)) [
          | true ↦ λ e.
              let time = time_among before (at m 59) (spelled time_row goes.time).spelled in
              terms_are (at m 40) (at m 59) type time.0
              (subst (λ (v : Said). is_beside v (at m 59) ≡ true) (value_before 40 (goes.timed e))
              time.1)
          | false ↦ λ e. rw (no_row 59 e) (terms_are (at m 40) None type refl refl)
        ] refl

    days_by : (date : Said) → IsSpelled before (Value Day) date
        → IfSome date (λ d. number_of_two (drop 6 d) ≡ digits_value 10 (drop 6 d))
    days_by None h = tt
    days_by (Some date) h = day_value before date h.spelled

    pub ordinary_by : ((letter == 56) ≡ true → has_row items 102 ≡ false)
        → ((letter == 57) ≡ true → (has_row items 103 ≡ false) × (has_row items 378 ≡ false))
        → IsOrdinary m
    ordinary_by report reject = record {
      day = days_by (at m 541) (spelled (row Optional 541 Day) goes.date);
      plain = terms.plain;
      close = terms.close;
      report = λ h. no_row 102 (report (sym (ap (λ (l : ℕ). l == 56) sound.letter) ∙ h));
      reject = λ h. let none = reject (sym (ap (λ (l : ℕ). l == 57) sound.letter) ∙ h) in
          (no_row 103 none.0, no_row 378 none.1);
    }

    -- ---- codes

    abbrev status : ℕ
    status = code_in m.cells 39

    abbrev fills : Bool
    fills = is_fill status (amount_in m.cells 151).units

    record IsMapped : Type 0 where
      venue : ℕ
      trans : ℕ
      at_venue : at m 150 ≡ Some (code_text venue)
      mapped : trans_type venue ≡ Some trans
      are : AreCodes venue trans (exec_type venue status fills)

    known_there : (tag : ℕ) (listed : List ℕ) → IsRow items (row Required tag (Known listed))
        → has_row items tag ≡ true
        → (code : ℕ) × (at m tag ≡ Some (code_text code)) × (is_one_of listed code ≡ true)
    known_there tag listed is has = by (at m tag) (is_there (row Required tag (Known listed)) refl has is)
        (spelled (row Required tag (Known listed)) is).spelled
      where
        by : (said : Said) → IsSome said
            → IfSome said (λ text. judge before (Value (Known listed)) text ≡ Spells text)
            → (code : ℕ) × (said ≡ Some (code_text code)) × (is_one_of listed code ≡ true)
        by None there h = absurd cc
        by (Some text) there h =
            let t = is_known_of before listed text h in
            (t.code, ap (λ (x : List ℕ). Some x) t.is, t.listed)

    module _ (typed : lacks_type (code_if m.cells 150) ≡ false) where
      module _ (has : has_row items 150 ≡ true) (groups : AreGroups g) where
        -- the codes of FIX 4.2
        x : IsMapped
        x =
            let venue = known_there 150 exec_types goes.exec_type has in
            let known = known_there 39 statuses goes.status (goes.both has) in
            let P : Said → Type 0 = λ s. lacks_type (s >>= code_of) ≡ false in
            let Q : Said → Type 0 = λ s. is_one_of statuses (unwrap_or (s >>= code_of) 0) ≡ true in
            by venue.0 venue.1 venue.2 (trans_type venue.0) refl (subst P venue.1 typed)
            (subst Q (sym known.1) known.2)
          where
            by : (venue : ℕ) → at m 150 ≡ Some (code_text venue) → is_one_of exec_types venue ≡ true
                → (o : Option ℕ) → trans_type venue ≡ o → not (is_some o) ≡ false
                → is_one_of statuses status ≡ true → IsMapped
            by venue e listed (Some trans) f h k = record {
              venue = venue;
              trans = trans;
              at_venue = e;
              mapped = f;
              are = are_codes status fills k venue trans listed f;
            }
            by venue e listed None f h k = absurd cc

        abbrev exec : ℕ
        exec = exec_type x.venue status fills

        trans_said : own_said m TransType ≡ Some (code_text x.trans)
        trans_said = ap (λ (v : Said). coded ((v >>= code_of) >>= trans_type)) x.at_venue
            ∙ ap coded x.mapped

        exec_said : own_said m ExecType ≡ Some (code_text exec)
        exec_said = ap (λ (v : Said).
            option_map (λ code. code_text (exec_type code status fills)) (v >>= code_of)) x.at_venue

        at20 : value_at 20 after ≡ Some (code_text x.trans)
        at20 = value_is g groups (By TransType) 20 refl goes.types (goes.typed has).1 ∙ trans_said

        at150 : value_at 150 after ≡ Some (code_text exec)
        at150 = value_is g groups (By ExecType) 150 refl goes.execs (goes.typed has).2 ∙ exec_said

        from150 : value_at 150 before ≡ Some (code_text x.venue)
        from150 = value_before 150 (goes.typed has).0 ∙ x.at_venue

        needs_another : is_needed (When is_about_another) after ≡ true
            → is_needed (by_type (codes "GH")) before ≡ true
        needs_another n = ap (typed_by (codes "GH")) from150
            ∙ so _ _ x.are.needs_another (sym (ap about_another at20) ∙ n)

        needs_trade : is_needed (When is_execution) after ≡ true
            → is_needed (by_type (codes "FG")) before ≡ true
        needs_trade n = ap (typed_by (codes "FG")) from150
            ∙ so _ _ x.are.needs_trade (sym (λ i. executes (at20 i) (at150 i)) ∙ n)

      -- a row that other fields need
      needed_good : (rule : Own) (tag : ℕ) (condition : Condition) (listed : List ℕ)
          → own_kinds.target rule ≡ At (Tag tag) → own_said m rule ≡ at m tag
          → IsFound kinds all (By rule)
          → (has_row items 150 ≡ true → AreGroups g → is_needed (When condition) after ≡ true
          → is_needed (by_type listed) before ≡ true) → NeedsType items tag listed
          → IsGood g (turned (needed tag condition) (row_of_tag tag items))
      needed_good rule tag condition listed is says found needs fit =
          turned_good g (λ row. (is_value row.kind ≡ true) × (row.need ≡ by_type listed)
          × (has_row items 150 ≡ true)) (By rule) tag (needed tag condition) (λ row. is) found fit
          (λ row fit said groups.
          let P : Said → Type 0 = λ s. IsSaid judge after (needed tag condition row) s in
          subst P (sym says) (needed_said after condition tag row.kind (at m tag)
          (λ n. said.needed (ap (λ (need : Need). is_needed need before) fit.1
          ∙ needs fit.2 groups n))
          (same_kind before after row.kind fit.0 (at m tag) said.spelled) said.clear))

      status_case : has_row items 39 ≡ true
          → IsSaid judge after (row Required 39 (Code statuses)) (own_said m OrdStatus)
      status_case has =
          let known = known_there 39 statuses goes.status has in
          elim (works_on (code_if m.cells 39) (code_if m.cells 150)) as
          (λ b. IsSaid judge after (row Required 39 (Code statuses))
          (if b then Some (codes "5") else at m 39)) [
            | true ↦ code_said after 39 statuses 53 refl refl
            | false ↦ rw known.1 (code_said after 39 statuses known.0 refl known.2)
          ]

      -- ---- texts and dates

      told_case : Fits items (By Told) → IsTold 48 (told m)
      told_case fit =
          all_told before m (spelled (row Optional 103 Reason) fit.1)
          (spelled (row Optional 378 Reason) fit.2) (spelled (row Optional 102 Reason) fit.3)

      day_case : AreGroups g → (date : Said) → at m 541 ≡ date → has_row items 200 ≡ true
          → IsSpelled before (Value Day) date
          → IsSaid judge after (record { tag = 205; kind = DayOf 200; need = Optional })
          (option_map (drop 6) date)
      day_case groups None e has h = optional_said after 205 (DayOf 200) None tt tt
      day_case groups (Some date) e has h =
          let at200 : value_at 200 after ≡ Some (take 6 date) =
          value_is g groups (By Month) 200 refl goes.months (goes.dated has).2
          ∙ month ∙ ap (λ (d : Said). month_by d (at m 200)) e in
          optional_said after 205 (DayOf 200) (Some (drop 6 date))
          (day_spelled before after date h.spelled at200) (clear_back 6 date h.clear)

      month_case : AreGroups g → Fits items (By Month) → has_row items 200 ≡ true
          → IsSaid judge after (row (When has_day) 200 MonthYear) (at m 200)
      month_case groups fit has =
          let d = spelled (row Optional 541 Day) goes.date in
          let mo = spelled month_row fit in
          needed_said after has_day 200 (Value MonthYear) (at m 200)
          (λ n. month_there after (at m 541) (at m 200) month
          (value_is g groups (By DayOfDate) 205 refl goes.days (goes.dated has).1)
          (only_test (has_tag 205 after) n))
          (month_spelled before after (at m 541) (at m 200) (value_before 541 (goes.dated has).0)
          d.spelled month mo.spelled) mo.clear

      -- ---- ONE LEMMA FOR EACH KIND OF RULE

      -- a row of its own, which FIX 4.2 says otherwise
      own_case : (rule : Own) → own_kinds.target rule ≡ At (Tag (own_row rule).tag)
          → IsFound kinds all (By rule) → (has_rule items rule ≡ true → AreGroups g
          → IsSaid judge after (own_row rule) (own_said m rule))
          → IsGood g (item_if (has_rule items rule) (One (own_row rule)))
      own_case rule is found h =
          own_good g (By rule) (has_rule items rule) (own_row rule) is found h

      rule_down : (rule : Rule) → IsFound kinds all rule → Fits items rule
          → kinds.lack m rule ≡ None → RuleGood g rule
      rule_down (Moved from to) found fit lack =
          turned_good g (λ row. can_go row ≡ true) (Moved from to) from (carried false to)
          (λ row. refl) found (may_fit (row_of_tag from items) fit)
          (λ row fit said groups. row_carried false before after to row (at m from) fit said)
      rule_down (By (OrKnown known)) found fit lack = own_case (OrKnown known) refl found
          (λ has groups.
          known_said before after 41 Id (at m 41) known (spelled (row Optional 41 Id) fit.0) fit.1
          lack)
      rule_down (By (PartyOf role to)) found fit lack = own_case (PartyOf role to) refl found
          (λ has groups.
          ids_said after to (party m role) (role_id (table50 letter items) m sound
          (fit (sym (has_one items (Role role)) ∙ has)) role))
      rule_down (Group count) found fit lack =
          carried_good g (λ group. all_can_go group.rows ≡ true) (Group count) count
          carried_group (λ group. refl) refl refl found fit
          (λ group lines ok said.
          record { few = said.few; said = lines_carried false group.rows lines ok said.said })
      rule_down (By ExecId) found fit lack = own_case ExecId refl found (λ has groups.
          id_said before after (status_if (code_if m.cells 150)) (at m 17)
          (is_there (row Required 17 Id) refl (has_of g 17 has) fit)
          (spelled (row Required 17 Id) fit))
      rule_down (By TransType) found fit lack = own_case TransType refl found (λ has groups.
          let has = has_of g 150 has in
          let P : Said → Type 0 = λ said. IsSaid judge after (own_row TransType) said in
          subst P (sym (trans_said has groups)) (code_said after 20 (codes "0123")
          (x has groups).trans refl (x has groups).are.trans_type))
      rule_down (By ExecType) found fit lack = own_case ExecType refl found (λ has groups.
          let has = has_of g 150 has in
          let P : Said → Type 0 = λ said. IsSaid judge after (own_row ExecType) said in
          subst P (sym (exec_said has groups))
          (code_said after 150 statuses _ refl (x has groups).are.exec_type))
      rule_down (By OrdStatus) found fit lack =
          own_case OrdStatus refl found (λ has groups. status_case (has_of g 39 has))
      rule_down (By (Another tag)) found fit lack = needed_good (Another tag) tag is_about_another
          (codes "GH") refl refl found needs_another fit
      rule_down (By (Traded tag)) found fit lack =
          needed_good (Traded tag) tag is_execution (codes "FG") refl refl found needs_trade fit
      rule_down (By (Within tag last other)) found fit lack =
          own_case (Within tag last other) refl found (λ has groups.
          reason_said before after tag last other fit.1 (at m tag)
          (spelled (row Optional tag Reason) fit.0))
      rule_down (By Told) found fit lack = own_case Told refl found (λ has groups.
          text_said before after (at m 58) (told m) (told_case fit)
          (spelled (row Optional 58 Text) fit.0))
      rule_down (By Month) found fit lack =
          own_case Month refl found (λ has groups. month_case groups fit (has_of g 200 has))
      rule_down (By DayOfDate) found fit lack = own_case DayOfDate refl found (λ has groups.
          day_case groups (at m 541) refl (sym goes.dates ∙ has_of g 541 has)
          (spelled (row Optional 541 Day) goes.date))
      rule_down (By OrdType) found fit lack = own_case OrdType refl found (λ has groups.
          among_said after 40 (codes "12345B") (own_said m OrdType) refl terms.type_listed)
      rule_down (By Time) found fit lack = own_case Time refl found (λ has groups.
          among_said after 59 (codes "0123456") (own_said m Time) refl terms.time_listed)

      -- WHAT GOES DOWN IS SOUND in the table that goes down.
      pub sound_down : lack_by kinds all m ≡ None
          → IsSound judge (table42 letter (items_down items all)) (by_rules kinds all m)
      sound_down lack =
          sound_made g (each_rule kinds (RuleGood g) (Fits items) all m rule_down own goes.fits lack)
