-- Inside: the kinds of rules of FIX 4.4 as the code has them, and what it writes by each of what it
-- has read.
use Rattle.std.specs.Prelude.{ℕ, ◌==◌, Bool, not, ◌||◌, ◌&&◌, is_some, List, [], ◌∷◌, Option}
use Rattle.std.specs.Prelude.{Some, None, codes, if◌then◌else◌}
use Rattle.std.specs.Borrow.{Bor}
use Rattle.std.specs.List.{list_any}
use Rattle.std.specs.Option.{option_map}
use Rattle.field_groups.specs.Field.{Field}
use Rattle.message_tables.specs.declared.table.Table.{Table as CodeTable}
use Rattle.message_tables.specs.Content.{cell_fields, group_fields}
use Rattle.message_tables.specs.Tables.{Said, Table, Tag, ◌>>=◌, code_of, is_one_of}
use Rattle.value_kinds.specs.ValueKind.{code_text}
use Rattle.row_values.specs.declared.kinds.Kind.{Kind as CodeKind}
use Rattle.row_values.specs.Kinds.{Kind}
use Rattle.order_meaning.specs.Report.{or_known}
use Rattle.order_meaning.specs.declared.party.PartyLine.{PartyLine}
use Rattle.rows_fix50.specs.Meaning.{id_of}
use Rattle.reports_fix50.specs.Sense.{telling}
use Rattle.rule_rows.specs.ByRules.{lack_if}
use Rattle.rule_rows.specs.Rules.{By, Same}
use Rattle.rule_rows.specs.Texts.{Besides as Asks, OfKinds, Own as OwnText, Reading, is_reason}
use Rattle.rule_rows.specs.declared.source.Source.{Source as ReadSource}
use Rattle.rule_rows.specs.CodeRules.{Code, stands}
use Rattle.request_rules.specs.CodeRules.{who_of}
use Rattle.request_rules.specs.Rules.{is_unlisted, party_lines}
use Rattle.report_rules.specs.CodeRules.{has_row, is_month, month, numbered, told, told_reading}
use Rattle.report_rules.specs.CodeRules.{within_text}
use Rattle.translate_fix44.specs.declared.rules.Own.{Own as CodeOwn}
use Rattle.translate_fix44.specs.declared.rules.Own.TheVariants as rules
use Rattle.translate_fix44.specs.declared.writing.Besides.{Besides}
use Rattle.translate_fix44.specs.Rules.{Own, Rule, Else, Turned, AtClose, Parties, PartyOf, Within}
use Rattle.translate_fix44.specs.Rules.{Told, else_said, lacks_close, own_kinds, turn}

-- the rule that a kind of the code is, where this original id is known
abbrev pub rule_of : Said → CodeOwn → Rule
rule_of known rules.Month = Same 200
rule_of known rules.HandlInst = By (Else 21 (Some (codes "1")))
rule_of known rules.Original = By (Else 41 known)
rule_of known (rules.Turned tag listed turns) = By (Turned tag listed.now turns)
rule_of known rules.AtClose = By AtClose
rule_of known rules.Parties = By Parties
rule_of known (rules.PartyOf role) = By (PartyOf (who_of role))
rule_of known (rules.Within tag last other) = By (Within tag last (code_text other))
rule_of known (rules.Told is_report) = By Told

-- ---- what the code reads by a rule

-- the messages that have the terms of an order, and that name one by its instrument and parties:
-- all but a cancel reject (9)
abbrev pub has_terms : Table Kind → Bool
has_terms table = is_one_of (codes "DG8") table.letter

abbrev pub names_order : Table Kind → Bool
names_order table = not (table.letter == 57)

abbrev pub reading : Table Kind → CodeOwn → List Reading
reading table rules.Month = Asks (names_order table) ∷ []
reading table rules.HandlInst = OwnText 21
    ∷ Asks (if has_terms table then has_row table 21 else not (has_row table 21)) ∷ []
reading table rules.Original = OwnText 41 ∷ Asks (has_row table 41) ∷ []
reading table (rules.Turned tag listed turns) = OwnText tag ∷ []
reading table rules.AtClose = OwnText 40 ∷ OwnText 59 ∷ []
reading table rules.Parties = Asks (names_order table) ∷ []
reading table (rules.PartyOf role) = []
reading table (rules.Within tag last other) = OfKinds is_reason tag ∷ []
reading table (rules.Told is_report) = told_reading table is_report

-- ---- what it writes

abbrev pub Source : Type 0
Source = ReadSource Besides

abbrev pub source_of : Bor (List Field) → Bor (CodeTable CodeKind) → List PartyLine → Bool
    → Option (Bor (List ℕ)) → Source
source_of fields table parties terms known = record {
  fields = fields;
  table = table;
  besides = record { parties = parties; has_terms = terms; known = known };
}

module _ (s : Source) where
  abbrev pub known_of : Said
  known_of = option_map (λ id. id.now) s.besides.known

  -- the code that the value of a tag is
  abbrev pub coded : ℕ → Option ℕ
  coded tag = stands s tag >>= code_of

  -- the id of the party of role 4, where that has a place
  abbrev pub firm_of : Said
  firm_of = if s.besides.has_terms then id_of 4 s.besides.parties else None

  -- WHAT THE CODE WRITES by a rule
  abbrev pub writes : CodeOwn → List Field
  writes rules.Month = cell_fields (Tag 200, month s.fields.now)
  writes rules.HandlInst =
      cell_fields (Tag 21, else_said s.besides.has_terms (stands s 21) (Some (codes "1")))
  writes rules.Original = cell_fields (Tag 41, or_known (stands s 41) known_of)
  writes (rules.Turned tag listed turns) =
      cell_fields (Tag tag, option_map code_text (option_map (turn turns) (coded tag)))
  writes rules.AtClose = cell_fields (Tag 59, stands s 59)
  writes rules.Parties = group_fields 453
      (party_lines (id_of 3 s.besides.parties) (id_of 1 s.besides.parties) firm_of)
  writes (rules.PartyOf role) = []
  writes (rules.Within tag last other) =
      cell_fields (Tag tag, option_map (within_text last other) (numbered s.fields.now tag))
  writes (rules.Told is_report) =
      cell_fields (Tag 58, telling (stands s 58) (told s.fields.now is_report))

  -- the tag that it cannot say
  abbrev pub lacks : CodeOwn → Option ℕ
  lacks (rules.Turned tag listed turns) =
      lack_if (is_unlisted listed.now (option_map (turn turns) (coded tag))) tag
  lacks rules.AtClose = lack_if (lacks_close (coded 40) (coded 59)) 59
  lacks rules.Original = lack_if (not (is_some (or_known (stands s 41) known_of))) 41
  lacks rule = None

-- BOTH DIRECTIONS IN THE CODE, where this original id is known
abbrev pub code : Said → Code Besides CodeOwn Own
code known = record {
  kinds = own_kinds;
  apart = is_month;
  rule = rule_of known;
  reading = reading;
  writes = writes;
  lacks = lacks;
}

-- ---- parties

-- whether a party of a role has its place, in a message that has the terms of an order or not
abbrev pub has_role : Bool → ℕ → Bool
has_role terms role = role == 3 || (role == 1 || (terms && (role == 4)))

-- whether a line is of a party whose role has none
abbrev pub lacks_role_in : Bool → List PartyLine → Bool
lacks_role_in terms lines = list_any (λ line. not (has_role terms line.role)) lines
