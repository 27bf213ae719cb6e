-- What rules make of a sound message is sound in the table that they make of its table, up or down:
-- one lemma for each kind of rule.
use Rattle.std.proofs.Common.{◌≡◌, ℕ, List, [], ◌∷◌, Bool, true, false, Option, Some, None, refl}
use Rattle.std.proofs.Common.{sym, ap, ◌∙◌, codes}
use Rattle.std.specs.Option.{option_map}
use Rattle.std.specs.Prelude.{IsSome, IfSome, ◌&&◌, ◌||◌, ◌==◌, is_some, not}
use Rattle.std.specs.List.{AllByRecursion, list_any}
use Rattle.std.proofs.lemmas.Bool.{eqb-true}
use Rattle.std.proofs.lemmas.Slice.Eq.{bytes_eq-Decides}
use Rattle.field_groups.specs.Field.{Field, is_soh}
use Rattle.message_tables.specs.Tables.{Is, Need, Required, Optional, Lenient, When, Row, Item}
use Rattle.message_tables.specs.Tables.{Party, Lines, Message, Said, Tag, Role}
use Rattle.message_tables.specs.Tables.{Spells, ◌>>=◌, code_of, text_of, is_listed, is_needed}
use Rattle.message_tables.specs.Tables.{is_one_of, lines_of, party_in, value_at, Fixed}
use Rattle.message_tables.specs.Content.{content}
use Rattle.value_kinds.specs.ValueKind.{Code, Day, Known, OneByte, Reason, Text, code_text}
use Rattle.value_kinds.specs.ValueKind.{spelling}
use Rattle.order_meaning.specs.Report.{or_known}
use Rattle.row_values.specs.Kinds.{Kind, Value, Byte, TimeBeside, counted, is_at_close, judge, row}
use Rattle.row_values.specs.Kinds.{verdict_of}
use Rattle.row_values.specs.Groups.{parties}
use Rattle.sound_laws.specs.Sound.{IsClear, IsSaid, IsGroup, IsItem, IsSound}
use Rattle.sound_laws.proofs.ContentValues.{groups_said, is_alone, items_value, value_said, writes}
use Rattle.sound_laws.proofs.Each.{all_true, both, either, not_true}
use Rattle.sound_laws.proofs.Judged50.{AreAlike, judged_again, ours_kind}
use Rattle.sound_laws.proofs.RowsSaid.{code_spelled, is_code_of, lenient_said, listed_clear}
use Rattle.sound_laws.proofs.RowsSaid.{row_of_tag}
use Rattle.sound_laws.proofs.CompletedSound.{kept_test}
use Rattle.rule_rows.specs.ByRules.{At, by_rules, has_place, lack_by, lack_if, outline}
use Rattle.rule_rows.specs.Rows.{group_at}
use Rattle.rule_rows.specs.Rules.{By, Moved, Group}
use Rattle.rule_rows.specs.Texts.{is_unfixed}
use Rattle.rule_rows.proofs.Items.{has_row, item_if, row_there, IsRow, is_plain, is_value}
use Rattle.rule_rows.proofs.Looked.{IsFound, each_rule, rule_at, said_by, no_lack}
use Rattle.rule_rows.proofs.Looked as looked
use Rattle.rule_rows.proofs.Said as source
use Rattle.rule_rows.proofs.Said.{IsSpelled, says_nothing}
use Rattle.rule_rows.proofs.Sound.{AreGroups, Goes, IsGood, RuleGood, carried_good, lines_are}
use Rattle.rule_rows.proofs.Sound.{lines_good, own_good, party_good, said_is, sound_made, target}
use Rattle.rule_rows.proofs.Sound.{turned_good, w, whatever, with_there}
use Rattle.rule_rows.proofs.Carried.{all_can_go, carried, is_known_of, kind_by, lines_carried}
use Rattle.rule_rows.proofs.Carried.{need_by, need_said, value_carried}
use Rattle.request_rules.specs.Rules.{Who, Client, is_unlisted, role_of}
use Rattle.request_rules.proofs.PartiesUp.{id_for, parties_said, roles_said}
use Rattle.request_rules.proofs.TermsUp.{one_byte, listed_is, time_counts}
use Rattle.report_rules.specs.Rules.{at, told}
use Rattle.report_rules.proofs.RowsDown.{all_told, known_said, reason_said, role_id, text_said}
use Rattle.translate_fix44.specs.Rules.{Rule, Else, Turned, AtClose, Parties, PartyOf, Within, Told}
use Rattle.translate_fix44.specs.Rules.{else_said, is_market_or_limit, kinds, lacks_close, party}
use Rattle.translate_fix44.specs.Rules.{turned_code}
use Rattle.translate_fix44.proofs.Tables.{are_kinds, AreWay, Asks, Fits, GoesBy, IsElse}
use Rattle.translate_fix44.proofs.Tables.{carried_group, coded, demanded, each_fits, each_made}
use Rattle.translate_fix44.proofs.Tables.{has_rule, if_any, is_beside, is_carried, is_code_kind}
use Rattle.translate_fix44.proofs.Tables.{is_coded, is_kept, is_typed, items_by, listed_kind, make}
use Rattle.translate_fix44.proofs.Tables.{own_row, table_from, table_to, tests, time_row}

-- ---- values

-- what is spelled as a code is one
one_code : (fields : List Field) (kind : Kind) (text : List ℕ) → is_code_kind kind ≡ true
    → judge fields kind text ≡ Spells text → (code : ℕ) × (text ≡ code ∷ [])
one_code fields (Value (Code listed)) text k h =
    let t = is_code_of fields listed text h in (t.code, t.is)
one_code fields (Value (Known listed)) text k h =
    let t = is_known_of fields listed text h in (t.code, t.is)
one_code fields (Value OneByte) text k h = one_byte fields text h
one_code fields other text k h = absurd cc

byte_listed : (fields : List Field) (listed : List ℕ) (code : ℕ) → is_one_of listed code ≡ true
    → judge fields (Byte listed) (code ∷ []) ≡ Spells (code ∷ [])
unfolding judge spelling
byte_listed fields listed code h = ap (λ (b : Bool). counted b (Spells (code ∷ []))) h

listed_spelled : (fields : List Field) (kind : Kind) (listed : List ℕ) (code : ℕ)
    → is_one_of listed code ≡ true
    → judge fields (listed_kind listed kind) (code ∷ []) ≡ Spells (code ∷ [])
listed_spelled fields (Value OneByte) listed code h = byte_listed fields listed code h
listed_spelled fields other listed code h = code_spelled fields listed code h

plain_is : (type : Said) → is_market_or_limit (type >>= code_of) ≡ is_listed (codes "12") type
plain_is (Some (code ∷ [])) = refl
plain_is other = refl

-- a time that does not lack counts
closes : (code : ℕ) (type : Option ℕ) → lacks_close type (Some code) ≡ false
    → (not (is_at_close (code ∷ [])) || is_market_or_limit type) ≡ true
closes code type h = by (is_at_close (code ∷ [])) refl
  where
    plain : (p : Bool) → (true && not p) ≡ false → p ≡ true
    plain true h = refl
    plain false h = absurd cc

    by : (b : Bool) → is_at_close (code ∷ []) ≡ b → (not b || is_market_or_limit type) ≡ true
    by false e = refl
    by true e =
        let same : code ∷ [] ≡ codes "7" = (bytes_eq-Decides (code ∷ []) (codes "7")).0 e in
        let is : code ≡ 55 = cc in
        plain (is_market_or_limit type) (rw is at h)

kept_unfixed : (need : Need) → is_kept need ≡ true → is_unfixed need ≡ true
kept_unfixed (Fixed text) h = absurd cc
kept_unfixed need h = refl

plain_kept : (need : Need) → is_plain need ≡ true → is_kept need ≡ true
plain_kept need h = ap (λ (b : Bool). b || is_typed need) h

-- what passes a test, if there is anything
passed : {A : Type 0} (test : A → Bool) (one : Option A) → if_any test one ≡ true
    → IfSome one (λ one. test one ≡ true)
passed test None h = tt
passed test (Some one) h = h

-- ---- a sound message of a table that goes by the rules

module _ (up : Bool) (all : List Rule) (way : AreWay all) (letter : ℕ) (items : List (Item Kind))
    (goes : GoesBy up all letter items) (m : Message)
    (sound : IsSound judge (table_from up letter items) m) where
  abbrev pub g : Goes Rule
  g = record {
    kinds = kinds;
    are = are_kinds;
    all = all;
    own = way.own;
    table = table_from up letter items;
    make = make up items;
    each = each_made up items;
    header = (table_to up all letter items).header;
    strict = not up;
    m = m;
    sound = sound;
  }

  abbrev before : List Field
  before = content g.table m

  abbrev after : List Field
  after = content (target g) (w g)

  abbrev others : List (Item Kind)
  others = items_by up items all

  tested : AllByRecursion (λ b. b ≡ true) (tests up all letter items)
  tested = all_true (λ b. b) (tests up all letter items) goes.passed

  spelled : (row : Row Kind) → IsRow items row → IsSpelled before row.kind (at m row.tag)
  spelled row is = source.spelled_by g.table m sound row is

  -- ---- groups

  parties_are : lines_of 453 (w g).groups ≡ kinds.lines m (By Parties)
  parties_are = lines_are g (By Parties) 453 refl way.parties

  three : group_at 453 items ≡ Some parties → IsGroup judge parties (lines_of 453 (w g).groups)
  three there =
      rw parties_are (parties_said (party m 3) (party m 1) (party m 4)
      (role_id g.table m sound there 3) (role_id g.table m sound there 1)
      (role_id g.table m sound there 4))

  parties_good : Asks items Parties → RuleGood g (By Parties)
  parties_good fit =
      elim (has_rule items Parties) as (λ b. has_rule items Parties ≡ b
      → IsGood g (item_if b (Lines parties))) [
        | true ↦ λ e. lines_good g true parties (three (fit e))
        | false ↦ λ e. record { groups = tt; said = λ groups. tt }
      ] refl

  role_said : (who : Who) → IsFound kinds all (By (PartyOf who))
      → IsItem judge after (w g) (Party (role_of who))
  role_said who found =
      said_is g (By (PartyOf who)) (Role (role_of who)) refl found
      ∙ for who ∙ roles_said (party m 3) (party m 1) (party m 4) who
      ∙ ap (party_in (role_of who)) (sym parties_are)
    where
      for : (who : Who) → party m (role_of who) ≡ id_for who (party m 3) (party m 1) (party m 4)
      for Client = refl
      for who = refl

  module _ (groups : AreGroups g) where
    -- ---- what values are judged by

    value_after : (tag : ℕ) → is_alone tag others ≡ true
        → value_at tag after ≡ said_by kinds m (rule_at kinds (At (Tag tag)) all)
    value_after tag alone = value_said judge (w g) tag others alone groups
        ∙ looked.says kinds are_kinds all way.own m (Tag tag)

    -- what holds of what is said at a tag, before and after, holds of the values of the tag
    beside : (tag : ℕ) (P : Said → Said → Type 0) → is_beside up items all tag ≡ true
        → P (at m tag) (said_by kinds m (rule_at kinds (At (Tag tag)) all)) → P None None
        → P (value_at tag before) (value_at tag after)
    beside tag P fit said none =
        by (is_alone tag items) (is_alone tag others)
        (list_any (writes tag) items || list_any (writes tag) others) refl refl refl fit
      where
        by : (a b c : Bool) → is_alone tag items ≡ a → is_alone tag others ≡ b
            → (list_any (writes tag) items || list_any (writes tag) others) ≡ c
            → ((a && b) || not c) ≡ true → P (value_at tag before) (value_at tag after)
        by true true c one other e h =
            rw (source.value_is g.table m sound tag one, value_after tag other) said
        by a b false one other e h =
            let p = either (list_any (writes tag) items) (list_any (writes tag) others) e in
            rw (
              items_value judge m tag items p.0 (groups_said judge before m items sound.items),
              items_value judge (w g) tag others p.1 groups,
            ) none
        by a b true one other e h = absurd cc

    alike : AreAlike true before after
    alike = record {
      date = ap (λ (v : Said). v >>= (λ text. text_of (verdict_of (spelling Day text))))
          (beside 541 (λ a b. b ≡ a) tested.1.0 (way.date m) refl);
      ord_type = λ _. beside 40 (λ a b. is_listed (codes "12") a ≡ true
          → is_listed (codes "12") b ≡ true) tested.1.1.0 (way.close m) (λ h. h);
    }

    types_kept : (listed : List ℕ) → is_one_of listed 73 ≡ false
        → is_listed listed (value_at 150 after) ≡ true
        → is_listed listed (value_at 150 before) ≡ true
    types_kept listed apart = beside 150 (λ a b. is_listed listed b ≡ true
        → is_listed listed a ≡ true) tested.1.1.1.0 (way.types m listed apart) (λ h. h)

    -- ---- needs

    need_kept : (need : Need) → is_kept need ≡ true → is_needed need after ≡ true
        → is_needed need before ≡ true
    need_kept Required k n = refl
    need_kept Optional k n = n
    need_kept Lenient k n = n
    need_kept (When ((Is tag listed ∷ []) ∷ [])) k n =
        let p = both (tag == 150) (not (is_one_of listed 73)) k in
        let is = eqb-true tag 150 p.0 in
        rw is (kept_test (is_listed listed (value_at 150 after))
        (is_listed listed (value_at 150 before))
        (types_kept listed (not_true (is_one_of listed 73) p.1)) (rw is at n))
    need_kept other k n = absurd cc

    -- a row of a need that is carried
    needs : (need : Need) (dropped : Bool) (to : ℕ) (kind : Kind) (said : Said)
        → is_kept need ≡ true → (is_needed need before ≡ true → IsSome said)
        → IfSome said (λ text. judge after kind text ≡ Spells text) → IfSome said IsClear
        → IsSaid judge after (record { tag = to; kind = kind; need = need_by need up dropped }) said
    needs need dropped to kind said k there s c =
        need_said after need up dropped to kind said (kept_unfixed need k)
        (λ n. there (need_kept need k n)) s c

    -- ---- the rows that rules make

    kind_again : (kind : Kind) → ours_kind true kind ≡ true → (said : Said)
        → IfSome said (λ text. judge before kind text ≡ Spells text)
        → IfSome said (λ text. judge after (kind_by kind up) text ≡ Spells text)
    kind_again (Value kind) ours said h = value_carried before after up (Value kind) refl said h
    kind_again kind ours None h = tt
    kind_again kind ours (Some text) h = judged_again true before after alike kind ours text text h

    carried_row : (to : ℕ) (row : Row Kind) (said : Said) → is_carried row ≡ true
        → IsSaid judge before row said → IsSaid judge after (carried up to row) said
    carried_row to row said fit h =
        let p = both (is_kept row.need) (ours_kind true row.kind) fit in
        needs row.need _ to (kind_by row.kind up) said p.0 h.needed
        (kind_again row.kind p.1 said h.spelled) h.clear

    turned_said : (tag : ℕ) (listed : List ℕ) (turns : Option (ℕ × ℕ)) (row : Row Kind)
        (said : Said)
        → is_coded row ≡ true → list_any is_soh listed ≡ false → IsSaid judge before row said
        → is_unlisted listed (turned_code turns said) ≡ false
        → IsSaid judge after (coded up tag listed row)
        (option_map code_text (turned_code turns said))
    turned_said tag listed turns row said fit none h lack =
        let p = both (is_plain row.need) (is_code_kind row.kind) fit in
        let spelled = spelled_by (turned_code turns said)
        (listed_is listed (turned_code turns said) lack) in
        needs row.need true tag (listed_kind listed row.kind) _ (plain_kept row.need p.0)
        (λ n. there said (h.needed n) h.spelled p.1) spelled.spelled spelled.clear
      where
        there : (said : Said) → IsSome said
            → IfSome said (λ text. judge before row.kind text ≡ Spells text)
            → is_code_kind row.kind ≡ true
            → IsSome (option_map code_text (turned_code turns said))
        there None is h k = absurd cc
        there (Some text) is h k = rw (one_code before row.kind text k h).1 refl

        spelled_by : (code : Option ℕ) → IfSome code (λ c. is_one_of listed c ≡ true)
            → IsSpelled after (listed_kind listed row.kind) (option_map code_text code)
        spelled_by None l = says_nothing after (listed_kind listed row.kind)
        spelled_by (Some code) l = record {
          spelled = listed_spelled after row.kind listed code l;
          clear = listed_clear listed code none l;
        }

    else_is : (tag : ℕ) (kind : Kind) (b : Bool) (said known : Said) → b ≡ true
        → lack_if (b && not (is_some (or_known said known))) tag ≡ None
        → IsSpelled before kind said → is_value kind ≡ true
        → IfSome known (λ text. (judge [] kind text ≡ Spells text) × IsClear text)
        → IsSaid judge after (record { tag = tag; kind = kind; need = Required })
        (else_said b said known)
    else_is tag (Value kind) true said known e lack h v k =
        known_said before after tag kind said known h k lack
    else_is tag kind false said known e lack h v k = absurd cc
    else_is tag kind b said known e lack h v k = absurd cc

    time_said : has_row items 59 ≡ true → (said : Said)
        → IsSpelled before (Value (Code (codes "01234567"))) said
        → lacks_close (at m 40 >>= code_of) (said >>= code_of) ≡ false
        → IsSaid judge after (record { tag = 59; kind = TimeBeside 40; need = Lenient }) said
    time_said there None h lack = lenient_said after 59 (TimeBeside 40) None tt tt
    time_said there (Some text) h lack =
        let t = is_code_of before (codes "01234567") text h.spelled in
        rw t.is (lenient_said after 59 (TimeBeside 40) (Some (t.code ∷ []))
        (time_counts after t.code t.listed (beside t.code (rw t.is at lack)))
        (listed_clear (codes "01234567") t.code refl t.listed))
      where
        timed : (a b : Bool) → (not a || b) ≡ true → a ≡ true → b ≡ true
        timed true b h e = h
        timed false b h e = absurd cc

        kept : (a b c : Bool) → (b ≡ true → c ≡ true) → (a || b) ≡ true → (a || c) ≡ true
        kept true b c h e = refl
        kept false b c h e = h e

        beside : (code : ℕ) → lacks_close (at m 40 >>= code_of) (Some code) ≡ false
            → (not (is_at_close (code ∷ [])) || is_listed (codes "12") (value_at 40 after)) ≡ true
        beside code lack =
            kept (not (is_at_close (code ∷ []))) (is_market_or_limit (at m 40 >>= code_of))
            (is_listed (codes "12") (value_at 40 after))
            (λ plain. ap (is_listed (codes "12")) (value_after 40 (timed (has_row items 59)
            (is_alone 40 others) tested.1.1.1.1.0 there))
            ∙ way.close m (sym (plain_is (at m 40)) ∙ plain))
            (closes code (at m 40 >>= code_of) lack)

  -- ---- ONE LEMMA FOR EACH KIND OF RULE

  rule_by : (rule : Rule) → IsFound kinds all rule → Fits items rule → kinds.lack m rule ≡ None
      → RuleGood g rule
  rule_by (Moved from to) found fit lack =
      turned_good g (λ row. is_carried row ≡ true) (Moved from to) from (carried up to)
      (λ row. refl) found (passed is_carried (row_of_tag from items) fit)
      (λ row f said groups. carried_row groups to row (at m from) f said)
  rule_by (Group count) found fit lack =
      carried_good g (λ group. all_can_go group.rows ≡ true) (Group count) count
      (carried_group up) (λ group. refl) refl refl found
      (passed (λ group. all_can_go group.rows) (group_at count items) fit)
      (λ group lines ok said. record {
        few = said.few;
        said = lines_carried up group.rows lines ok said.said;
      })
  rule_by (By (Else tag known)) found fit lack =
      turned_good g (λ row. IsElse known row × (has_row items tag ≡ true)) (By (Else tag known)) tag
      (demanded tag) (λ row. refl) found (with_there (IsElse known) (row_of_tag tag items) fit)
      (λ row f said groups. else_is groups tag row.kind (has_place (outline m) (Tag tag)) (at m tag)
      known (ap (λ o. has_place o (Tag tag)) (source.outline_is g.table m sound)
      ∙ row_there items tag ∙ f.1) lack (record { spelled = said.spelled; clear = said.clear })
      f.0.0 f.0.1)
  rule_by (By (Turned tag listed turns)) found fit lack =
      let p = both (if_any is_coded (row_of_tag tag items)) (not (list_any is_soh listed)) fit in
      turned_good g (λ row. is_coded row ≡ true) (By (Turned tag listed turns)) tag
      (coded up tag listed) (λ row. refl) found (passed is_coded (row_of_tag tag items) p.0)
      (λ row f said groups. turned_said groups tag listed turns row (at m tag) f
      (not_true (list_any is_soh listed) p.1) said
      (no_lack (is_unlisted listed (turned_code turns (at m tag))) tag lack))
  rule_by (By AtClose) found fit lack =
      turned_good g (λ row. (row ≡ time_row) × (has_row items 59 ≡ true)) (By AtClose) 59
      (own_row 59 (TimeBeside 40) Lenient) (λ row. refl) found
      (with_there (λ row. row ≡ time_row) (row_of_tag 59 items) fit) (λ row f said groups.
      time_said groups f.1 (at m 59) (spelled time_row fit)
      (no_lack (lacks_close (at m 40 >>= code_of) (at m 59 >>= code_of)) 59 lack))
  rule_by (By (Within tag last other)) found fit lack =
      turned_good g (λ row. Unit {0}) (By (Within tag last other)) tag
      (own_row tag (Value Reason) Optional) (λ row. refl) found (whatever (row_of_tag tag items))
      (λ r f said groups. reason_said before after tag last other fit.1 (at m tag)
      (spelled (row Optional tag Reason) fit.0))
  rule_by (By Parties) found fit lack = parties_good fit
  rule_by (By (PartyOf who)) found fit lack =
      party_good g (has_rule items (PartyOf who)) (role_of who) (role_said who found)
  rule_by (By Told) found fit lack =
      own_good g (By Told) (has_rule items Told) (row Optional 58 Text) refl found
      (λ there groups. text_said before after (at m 58) (told m)
      (all_told before m (spelled (row Optional 103 Reason) fit.1)
      (spelled (row Optional 378 Reason) fit.2) (spelled (row Optional 102 Reason) fit.3))
      (spelled (row Optional 58 Text) fit.0))

  -- WHAT THE RULES MAKE IS SOUND in the table that they make.
  pub sound_by : lack_by kinds all m ≡ None
      → IsSound judge (table_to up all letter items) (by_rules kinds all m)
  sound_by lack = sound_made g (each_rule kinds (RuleGood g) (Fits items) all m rule_by way.own
      (each_fits items all tested.0 goes.asked) lack)
