-- What is known of the table of each message that goes, where its fields are at no fault; and that
-- the code writes by a kind of rule of its own what the rule writes of the message that was read,
-- and lacks what that lacks.
use Rattle.std.proofs.Common.{◌≡◌, ◌∙◌, ℕ, Bool, true, false, Some, None, refl, sym, ap, option_map}
use Rattle.std.proofs.Common.{◌<◌, ◌≤◌, ◌^◌, List, [], ◌∷◌, codes, length, lit<, map}
use Rattle.std.specs.Prelude.{not, ◌&&◌, is_some, if◌then◌else◌, ◌||◌}
use Rattle.std.specs.Fmt.{decimal}
use Rattle.std.specs.List.{list_any, slice_get}
use Rattle.std.specs.Str.{bytes_eq}
use Rattle.field_groups.specs.Field.{Field}
use Rattle.message_tables.specs.Content.{cell_fields, group_fields}
use Rattle.message_tables.specs.Tables.{Message, Said, Table, Tag, ◌>>=◌, code_of, Cell, Lines}
use Rattle.message_tables.specs.Tables.{Required, all_rows, group_says, is_one_of, is_place}
use Rattle.message_tables.specs.Tables.{lines_in, lines_of, party_in, row_at, tags_in}
use Rattle.message_tables.specs.FirstFault.{first_fault, message_in}
use Rattle.message_tables.proofs.Few.{few as few_lines}
use Rattle.value_kinds.specs.ValueKind.{code_text, Id, Number}
use Rattle.order_meaning.specs.Report.{or_known}
use Rattle.order_meaning.specs.declared.party.PartyLine.{PartyLine}
use Rattle.order_meaning.specs.Request.{RequestKind, New, Status}
use Rattle.row_values.specs.Kinds.{Kind, judge, row}
use Rattle.row_values.specs.Groups.{AreParties, parties}
use Rattle.row_values.specs.Lines.{party_cells}
use Rattle.row_values.proofs.ByTable.{says_parties}
use Rattle.row_values.proofs.SaidRows.{plain_parties}
use Rattle.rows_fix50.specs.Meaning.{id_of}
use Rattle.rows_fix50.specs.Header.{month_by}
use Rattle.rows_fix50.proofs.Roles.{AreSmall, of_role, same_role, small}
use Rattle.reports_fix50.specs.Message.{cancel_reject_table, report_table}
use Rattle.sound_laws.proofs.RowsSaid.{row_of_tag}
use Rattle.rule_rows.specs.ByRules.{Outline, has_place, lack_if, outline, rule_fields, outline_of}
use Rattle.rule_rows.specs.Texts.{Facts, Has, Own as OwnText}
use Rattle.rule_rows.specs.declared.rules.Rule.TheVariants as carried
use Rattle.rule_rows.specs.CodeRules.{stands, table_of}
use Rattle.rule_rows.specs.Rows.{have_written_lines}
use Rattle.rule_rows.proofs.FieldsSaid.{IsRead, row_says}
use Rattle.rule_rows.proofs.Items.{row_there}
use Rattle.rule_rows.proofs.Written.{AreSaid, Goes, moved, text}
use Rattle.request_rules.specs.Rules.{is_unlisted, party_lines}
use Rattle.row_values.specs.Asked.{letter_of}
use Rattle.report_rules.specs.CodeRules.{has_row, is_month, month}
use Rattle.report_rules.specs.Rules.{at}
use Rattle.report_rules.proofs.CodeDown.{told_said, within_said}
use Rattle.report_rules.proofs.SourceDown.{at_month, read_by, said}
use Rattle.translate_fix44.specs.declared.rules.Own.{Own as CodeOwn}
use Rattle.translate_fix44.specs.declared.rules.Own.TheVariants as rules
use Rattle.translate_fix44.specs.CodeRules.{Source, code, firm_of, has_terms, lacks, names_order}
use Rattle.translate_fix44.specs.CodeRules.{reading, rule_of, writes, has_role as placed}
use Rattle.translate_fix44.specs.CodeRules.{known_of, lacks_role_in}
use Rattle.translate_fix44.specs.Rules.{else_said, kinds, lacks_close, party, turned_code, has_role}
use Rattle.translate_fix44.specs.Rules.{is_role, lacks_role}
use Rattle.dict_fix44.specs.Requests.{asked44}
use Rattle.translate_fix44.specs.Put.{IsAsked}

-- ---- what the code has read

-- what is known besides of a message that names an order
pub record NamesOrder (s : Source) (m : Message) : Type 0 where
  pub month : month s.fields.now ≡ at m 200
  pub client : id_of 3 s.besides.parties ≡ party m 3
  pub broker : id_of 1 s.besides.parties ≡ party m 1
  pub firm : firm_of s ≡ party m 4

-- WHAT IS KNOWN of what the code has read by a table
pub record IsKnown (s : Source) (m : Message) (table : Table Kind) : Type 0 where
  pub said : AreSaid is_month table s.fields.now m
  pub terms : s.besides.has_terms ≡ has_terms table
  pub order : names_order table ≡ true → NamesOrder s m

-- ---- what an order says of HandlInst, and a cancel reject of OrigClOrdID

row_if : (terms there : Bool) → (if terms then there else not there) ≡ true → terms ≡ there
row_if true true h = refl
row_if false false h = refl
row_if terms there h = absurd cc

never : (there : Bool) (said : Said) (known : _)
    → None ≡ lack_if (there && not (is_some (or_known said (Some known)))) 21
never true None known = refl
never there said known = refl

has_to : (there : Bool) (said known : Said) → there ≡ true
    → (or_known said known ≡ else_said there said known)
    × (lack_if (not (is_some (or_known said known))) 41
    ≡ lack_if (there && not (is_some (or_known said known))) 41)
has_to true said known h = (refl, refl)
has_to false said known h = absurd cc

module _ (s : Source) (m : Message) (known : IsKnown s m (table_of s)) where
  abbrev table : Table Kind
  table = table_of s

  own_text : (tag : ℕ) → Has is_month table (OwnText tag) → stands s tag ≡ at m tag
  own_text = text (code (known_of s)) s m known.said

  -- a place is there where a row says it
  there : (tag : ℕ) → has_place (outline m) (Tag tag) ≡ has_row table tag
  there tag = ap (λ (o : Outline). has_place o (Tag tag)) known.said.there
      ∙ row_there table.items tag

  -- ONE CLAUSE FOR EACH KIND
  own_written : (rule : CodeOwn) → IsRead is_month table (reading table) rule
      → writes s rule ≡ rule_fields kinds m (rule_of (known_of s) rule)
  own_written rules.Month has =
      moved (code (known_of s)) s m 200 (known.order (ap (λ (f : Facts). f.2) has.0)).month
  own_written rules.HandlInst has =
      let is = known.terms ∙ row_if (has_terms table) (has_row table 21)
      (ap (λ (f : Facts). f.2) has.1.0) ∙ sym (there 21) in
      λ i. cell_fields (Tag 21, else_said (is i) (own_text 21 has.0 i) (Some (code_text 49)))
  own_written rules.Original has =
      moved (code (known_of s)) s m 41 (ap (λ (x : Said). or_known x (known_of s))
      (own_text 41 has.0) ∙ (has_to _ (at m 41) (known_of s) (there 41
      ∙ ap (λ (f : Facts). f.2) has.1.0)).0)
  own_written (rules.Turned tag listed turns) has =
      λ i. cell_fields (Tag tag, option_map code_text (turned_code turns (own_text tag has.0 i)))
  own_written rules.AtClose has = moved (code (known_of s)) s m 59 (own_text 59 has.1.0)
  own_written rules.Parties has =
      let order = known.order (ap (λ (f : Facts). f.2) has.0) in
      λ i. group_fields 453 (party_lines (order.client i) (order.broker i) (order.firm i))
  own_written (rules.PartyOf role) has = refl
  own_written (rules.Within tag last other) has = moved (code (known_of s)) s m tag
      (within_said table s.fields.now m known.said tag last other has.0)
  own_written (rules.Told is_report) has =
      moved (code (known_of s)) s m 58 (told_said table s.fields.now m known.said is_report has)

  own_lacked : (rule : CodeOwn) → IsRead is_month table (reading table) rule
      → lacks s rule ≡ kinds.lack m (rule_of (known_of s) rule)
  own_lacked rules.HandlInst has = never (has_place (outline m) (Tag 21)) (at m 21) (code_text 49)
  own_lacked rules.Original has =
      (λ i. lack_if (not (is_some (or_known (own_text 41 has.0 i) (known_of s)))) 41)
      ∙ (has_to _ (at m 41) (known_of s) (there 41 ∙ ap (λ (f : Facts). f.2) has.1.0)).1
  own_lacked (rules.Turned tag listed turns) has =
      λ i. lack_if (is_unlisted listed.now (turned_code turns (own_text tag has.0 i))) tag
  own_lacked rules.AtClose has = λ i. lack_if (lacks_close (own_text 40 has.0 i >>= code_of)
      (own_text 59 has.1.0 i >>= code_of)) 59
  own_lacked rule has = refl

  pub own_goes : (rule : CodeOwn) → IsRead is_month table (reading table) rule
      → Goes (code (known_of s)) s m (carried.By rule)
  own_goes rule has = record { written = own_written rule has; lacked = own_lacked rule has }

-- ---- the lines of parties whose role has no place in a message are those that the code finds

or_false : (b : Bool) → (b || false) ≡ b
or_false true = refl
or_false false = refl

-- the roles that have a place are those of the places of a message
abbrev pub HasRoles : Bool → Message → Type 0
HasRoles terms m = (role : ℕ) → role < 2 ^ 64
    → placed terms role ≡ list_any (λ cell. is_role cell.0 (decimal role)) m.cells

roles_are : (terms : Bool) (m : Message)
    → ((text : List ℕ) → list_any (λ cell. is_role cell.0 text) m.cells
    ≡ (bytes_eq text (decimal 3) || (bytes_eq text (decimal 1)
    || ((terms && bytes_eq text (decimal 4)) || false)))) → HasRoles terms m
roles_are terms m has role r =
    sym (λ i. same_role role 3 r (lit< tt) i || (same_role role 1 r (lit< tt) i
    || or_false (terms && same_role role 4 r (lit< tt) i) i)) ∙ sym (has (decimal role))

module _ (terms : Bool) (m : Message) (has : HasRoles terms m) where
  each_line : (ps : List PartyLine) → AreSmall ps
      → lacks_role_in terms ps ≡ list_any (λ line. not (has_role m line)) (map party_cells ps)
  each_line [] h = refl
  each_line (line ∷ ps) h = λ i. not (has line.role h.0 i) || each_line ps h.1 i

  pub roles_lack : (fields : List Field) (ps : List PartyLine) → AreParties fields ps
      → map party_cells ps ≡ lines_of 453 m.groups → lacks_role_in terms ps ≡ lacks_role m
  roles_lack fields ps are same =
      each_line ps (small (lines_in (tags_in parties) fields) ps are)
      ∙ ap (λ (lines : List (List Cell)). list_any (λ line. not (has_role m line)) lines) same

-- ---- what is known of each message

few : (fields : List Field) (kind : RequestKind) → first_fault judge (asked44 kind) fields ≡ None
    → length (lines_in (tags_in parties) fields) ≤ 32
few fields New h = few_lines judge (asked44 New) fields 0 (tags_in parties) plain_parties refl h
few fields kind h = few_lines judge (asked44 kind) fields 0 (tags_in parties) plain_parties refl h

pub few_asked : (t : Table Kind) (fields : List Field) → IsAsked t fields
    → length (lines_in (tags_in parties) fields) ≤ 32
few_asked t fields asked = few fields asked.kind
    (ap (λ (t : Table Kind). first_fault judge t fields) (sym asked.its) ∙ asked.none)

written : (kind : RequestKind) → have_written_lines (asked44 kind).items ≡ true
written New = refl
written kind = refl

pub lines_written : (t : Table Kind) (fields : List Field) → IsAsked t fields
    → have_written_lines t.items ≡ true
lines_written t fields asked =
    ap (λ (t : Table Kind). have_written_lines t.items) asked.its ∙ written asked.kind

module _ (s : Source) (t : Table Kind) (none : first_fault judge t s.fields.now ≡ None) where
  abbrev fields : List Field
  fields = s.fields.now

  abbrev m : Message
  m = read_by t fields

  -- a message that names an order
  module _ (are : AreParties fields s.besides.parties) (i : ℕ)
      (at : slice_get t.items i ≡ Some (Lines parties))
      (its_id : row_at 448 (all_rows t) ≡ Some (row Required 448 Id))
      (its_role : row_at 452 (all_rows t) ≡ Some (row Required 452 Number)) where
    pub lines : map party_cells s.besides.parties ≡ (group_says judge fields parties).1
    lines = says_parties t fields none i at its_id its_role s.besides.parties are

    id : (role : ℕ) → role < 2 ^ 64
        → id_of role s.besides.parties ≡ party_in role (group_says judge fields parties).1
    id = of_role fields s.besides.parties are lines

    pub order_named : s.besides.has_terms ≡ has_terms t → outline m ≡ outline_of t.items
        → list_any (is_place (Tag 200)) (map (λ c. c.0) (message_in judge t fields).cells) ≡ true
        → month s.fields.now ≡ month_by (row_says fields (row_of_tag 541 t.items))
        (row_says fields (row_of_tag 200 t.items))
        → party_in 3 (group_says judge fields parties).1 ≡ party m 3
        → party_in 1 (group_says judge fields parties).1 ≡ party m 1
        → (if has_terms t then party_in 4 (group_says judge fields parties).1 else None) ≡ party m 4
        → IsKnown s m t
    order_named terms there place of client broker firm = record {
      said = said t fields none there;
      terms = terms;
      order = λ h. record {
        month = of ∙ sym (at_month fields t place);
        client = id 3 (lit< tt) ∙ client;
        broker = id 1 (lit< tt) ∙ broker;
        firm = (λ i. if terms i then id 4 (lit< tt) i else None) ∙ firm;
      };
    }

-- WHAT IS KNOWN of a request
pub record IsKnownRequest (s : Source) (t : Table Kind) : Type 0 where
  pub known : IsKnown s (read_by t s.fields.now) t
  pub lines : map party_cells s.besides.parties ≡ lines_of 453 (read_by t s.fields.now).groups
  pub roles : HasRoles (has_terms t) (read_by t s.fields.now)

-- where its parties stand
abbrev place_of : RequestKind → ℕ
place_of New = 1
place_of Status = 2
place_of kind = 3

module _ (s : Source) (are : AreParties s.fields.now s.besides.parties) where
  pub known_request : (kind : RequestKind) → first_fault judge (asked44 kind) s.fields.now ≡ None
      → s.besides.has_terms ≡ is_one_of (codes "DG") (letter_of kind)
      → IsKnownRequest s (asked44 kind)
  known_request New none terms = record {
    known = order_named s (asked44 New) none are (place_of New) refl refl refl terms refl refl refl
        refl refl refl;
    lines = lines s (asked44 New) none are (place_of New) refl refl refl;
    roles = roles_are (has_terms (asked44 New)) (read_by (asked44 New) s.fields.now) (λ text. refl);
  }
  known_request kind none terms = record {
    known = order_named s (asked44 kind) none are (place_of kind) refl refl refl terms refl refl
        refl refl refl refl;
    lines = lines s (asked44 kind) none are (place_of kind) refl refl refl;
    roles = roles_are (has_terms (asked44 kind)) (read_by (asked44 kind) s.fields.now)
        (λ text. refl);
  }

  -- and of an execution report
  pub known_report : first_fault judge report_table s.fields.now ≡ None
      → s.besides.has_terms ≡ true → IsKnown s (read_by report_table s.fields.now) report_table
  known_report none terms =
      order_named s report_table none are 4 refl refl refl terms refl refl refl refl refl refl

-- and of a cancel reject, which names no order
pub known_reject : (s : Source) → first_fault judge cancel_reject_table s.fields.now ≡ None
    → s.besides.has_terms ≡ false
    → IsKnown s (read_by cancel_reject_table s.fields.now) cancel_reject_table
known_reject s none terms = record {
  said = said cancel_reject_table s.fields.now none refl;
  terms = terms;
  order = λ h. absurd cc;
}
