-- Inside: the kinds of rules of reports as the code has them, and what it writes by each of what it
-- has read.
use Rattle.std.specs.Prelude.{ℕ, ◌++◌, ◌==◌, ◌&&◌, Bool, true, false, not, is_some, pos, List, []}
use Rattle.std.specs.Prelude.{◌∷◌, drop, codes, Option, Some, None, nat_le, unwrap_or}
use Rattle.std.specs.Prelude.{if◌then◌else◌}
use Rattle.std.specs.Borrow.{Bor}
use Rattle.std.specs.Fmt.{decimal}
use Rattle.std.specs.Option.{option_map}
use Rattle.typed_fields.specs.declared.dec.Dec.{Dec}
use Rattle.typed_fields.specs.declared.number.Number.{Number}
use Rattle.field_groups.specs.Field.{Field}
use Rattle.message_tables.specs.declared.table.Table.{Table as CodeTable}
use Rattle.message_tables.specs.Content.{cell_fields}
use Rattle.message_tables.specs.Tables.{Said, Table, Tag, ◌>>=◌, code_of, is_one_of, value_at}
use Rattle.value_kinds.specs.ValueKind.{Code, Day, code_text}
use Rattle.row_values.specs.declared.kinds.Kind.{Kind as CodeKind}
use Rattle.row_values.specs.Kinds.{Kind, MonthBeside, TimeBeside, Value, said}
use Rattle.order_meaning.specs.declared.party.PartyLine.{PartyLine}
use Rattle.order_meaning.specs.Report.{or_known}
use Rattle.rows_fix50.specs.Header.{month_by}
use Rattle.rows_fix50.specs.Meaning.{id_of}
use Rattle.reports_fix50.specs.Sense.{reason_told, telling}
use Rattle.sound_laws.proofs.RowsSaid.{row_of_tag}
use Rattle.rule_rows.specs.ByRules.{lack_if}
use Rattle.rule_rows.specs.Rules.{By}
use Rattle.rule_rows.specs.Texts.{Besides as Asks, OfKind, OfKinds, Own as OwnText, Reading}
use Rattle.rule_rows.specs.Texts.{decimal_of, decimal_text, is_amount, is_kept, is_reason, kept}
use Rattle.rule_rows.specs.Texts.{number_of as number_in}
use Rattle.rule_rows.specs.declared.source.Source.{Source as ReadSource}
use Rattle.rule_rows.specs.CodeRules.{Code as Direction, stands}
use Rattle.report_rules.specs.declared.rules.Own.{Own as CodeOwn}
use Rattle.report_rules.specs.declared.rules.Own.TheVariants as rules
use Rattle.report_rules.specs.declared.source.Besides.{Besides}
use Rattle.report_rules.specs.declared.source.Codes.{Codes}
use Rattle.report_rules.specs.Rules.{Own, Rule, Original, PartyOf, ExecId, TransType, ExecType}
use Rattle.report_rules.specs.Rules.{OrdStatus, Another, Traded, Within, Told, Month, DayOfDate}
use Rattle.report_rules.specs.Rules.{OrdType, Time, at_close, coded, exec_type, id_down, is_fill}
use Rattle.report_rules.specs.Rules.{lacks_type, own_kinds, status_if, trans_type, works_on}

-- the rule that a kind of the code is, where this original id is known
abbrev pub rule_of : Said → CodeOwn → Rule
rule_of known rules.Original = Original known
rule_of known (rules.PartyOf role to) = By (PartyOf role to)
rule_of known rules.ExecId = By ExecId
rule_of known rules.TransType = By TransType
rule_of known rules.ExecType = By ExecType
rule_of known rules.OrdStatus = By OrdStatus
rule_of known (rules.Another tag) = By (Another tag)
rule_of known (rules.Traded tag) = By (Traded tag)
rule_of known (rules.Within tag last other) = By (Within tag last (code_text other))
rule_of known (rules.Told is_report) = By Told
rule_of known rules.Month = By Month
rule_of known rules.DayOfDate = By DayOfDate
rule_of known rules.OrdType = By OrdType
rule_of known rules.Time = By Time

-- the kinds of OrdType and TimeInForce
abbrev pub types : Kind
types = Value (Code (codes "1234"))

abbrev pub times : Kind
times = TimeBeside 40

-- ---- what the code reads by a rule

-- the message says another month than its row where there is a date
abbrev pub is_month : ℕ → Bool
is_month tag = tag == 200

-- whether a row says this tag
abbrev pub has_row : Table Kind → ℕ → Bool
has_row table tag = is_some (row_of_tag tag table.items)

-- the text, and the reasons of an execution report, or of a cancel reject
abbrev pub told_reading : Table Kind → Bool → List Reading
told_reading table true = OwnText 58 ∷ OfKinds is_reason 103 ∷ OfKinds is_reason 378
    ∷ Asks (not (has_row table 102)) ∷ []
told_reading table false = OwnText 58 ∷ OfKinds is_reason 102
    ∷ Asks (not (has_row table 103)) ∷ Asks (not (has_row table 378)) ∷ []

abbrev pub reading : Table Kind → CodeOwn → List Reading
reading table rules.Original = OwnText 41 ∷ []
reading table (rules.PartyOf role to) =
    Asks ((table.letter == 56) && is_one_of (1 ∷ 3 ∷ 4 ∷ []) role) ∷ []
reading table rules.ExecId = OwnText 17 ∷ []
reading table rules.OrdStatus = OwnText 39 ∷ []
reading table (rules.Another tag) = OwnText tag ∷ []
reading table (rules.Traded tag) = OfKinds is_amount tag ∷ []
reading table (rules.Within tag last other) = OfKinds is_reason tag ∷ []
reading table (rules.Told is_report) = told_reading table is_report
reading table rules.Month = Asks (table.letter == 56) ∷ []
reading table rules.DayOfDate = OwnText 541 ∷ []
reading table rules.OrdType = OfKind is_kept types 40 ∷ []
reading table rules.Time = OfKind is_kept times 59 ∷ []
reading table rule = []

-- ---- what several rules go by

abbrev pub zero : Dec
zero = record { units = pos 0 }

-- the codes of an execution report, and of a cancel reject
abbrev pub report_codes : List Field → Codes
report_codes fields = record {
  exec_type = value_at 150 fields >>= code_of;
  ord_status = value_at 39 fields >>= code_of;
  fills = is_fill (unwrap_or (value_at 39 fields >>= code_of) 0)
      (unwrap_or (decimal_of (value_at 151 fields)) zero).units;
  ord_type = kept fields 40 types >>= code_of;
  time = kept fields 59 times >>= code_of;
}

abbrev pub reject_codes : List Field → Codes
reject_codes fields = record {
  exec_type = None;
  ord_status = value_at 39 fields >>= code_of;
  fills = is_fill (unwrap_or (value_at 39 fields >>= code_of) 0) zero.units;
  ord_type = None;
  time = None;
}

abbrev pub trans_type_in : Option ℕ → Option ℕ
trans_type_in exec_type = exec_type >>= trans_type

abbrev pub exec_type_in : Codes → Option ℕ
exec_type_in c = option_map (λ code. exec_type code (unwrap_or c.ord_status 0) c.fills) c.exec_type

-- OrdType of an order on close
abbrev pub close_code : ℕ → ℕ
close_code code = if code == 49 then 53 else 66

-- the number of a reason, and how it is written
abbrev pub number_of : Option Number → Option ℕ
number_of reason = option_map (λ n. n.value) reason

abbrev pub within_text : ℕ → ℕ → Number → List ℕ
within_text last other reason =
    if nat_le reason.value last then decimal reason.value else code_text other

abbrev pub told_text : ℕ → ℕ → List ℕ
told_text tag reason = codes " [" ++ decimal tag ++ codes "=" ++ decimal reason ++ codes "]"

abbrev pub tells_of : (rej restate cxl : Option Number) → List ℕ
tells_of rej restate cxl = reason_told 103 8 (number_of rej)
    ++ (reason_told 378 5 (number_of restate) ++ reason_told 102 3 (number_of cxl))

module _ (fields : List Field) where
  -- the number that the value of a tag spells
  abbrev pub numbered : ℕ → Option Number
  numbered tag = number_in (value_at tag fields)

  -- the reasons that FIX 4.2 lacks of an execution report, or of a cancel reject
  abbrev pub told : Bool → List ℕ
  told is_report = if is_report then tells_of (numbered 103) (numbered 378) None
      else tells_of None None (numbered 102)

  -- the month of the maturity
  abbrev pub month : Said
  month = month_by (said fields 541 (Value Day)) (said fields 200 (MonthBeside 541))

-- ---- what it writes

abbrev pub Source : Type 0
Source = ReadSource Besides

-- WHAT THE CODE READS of fields by a table
abbrev pub source_of : Bor (List Field) → Bor (CodeTable CodeKind) → Codes → List PartyLine
    → Option (Bor (List ℕ)) → Source
source_of fields table codes parties known = record {
  fields = fields;
  table = table;
  besides = record { codes = codes; parties = parties; known = known };
}

module _ (s : Source) where
  abbrev pub known_of : Said
  known_of = option_map (λ id. id.now) s.besides.known

  abbrev is_close : Bool
  is_close = at_close s.besides.codes.ord_type s.besides.codes.time

  -- WHAT THE CODE WRITES by a rule
  abbrev pub writes : CodeOwn → List Field
  writes rules.Original = cell_fields (Tag 41, or_known (stands s 41) known_of)
  writes (rules.PartyOf role to) = cell_fields (Tag to, id_of role s.besides.parties)
  writes rules.ExecId =
      cell_fields (Tag 17, id_down (status_if s.besides.codes.exec_type) (stands s 17))
  writes rules.TransType = cell_fields (Tag 20, coded (trans_type_in s.besides.codes.exec_type))
  writes rules.ExecType = cell_fields (Tag 150, coded (exec_type_in s.besides.codes))
  writes rules.OrdStatus = cell_fields (
    Tag 39,
    if works_on s.besides.codes.ord_status s.besides.codes.exec_type
        then Some (codes "5") else stands s 39,
  )
  writes (rules.Another tag) = cell_fields (Tag tag, stands s tag)
  writes (rules.Traded tag) = cell_fields (Tag tag, decimal_text (stands s tag))
  writes (rules.Within tag last other) =
      cell_fields (Tag tag, option_map (within_text last other) (numbered s.fields.now tag))
  writes (rules.Told is_report) =
      cell_fields (Tag 58, telling (stands s 58) (told s.fields.now is_report))
  writes rules.Month = cell_fields (Tag 200, month s.fields.now)
  writes rules.DayOfDate = cell_fields (Tag 205, option_map (drop 6) (stands s 541))
  writes rules.OrdType = cell_fields (
    Tag 40,
    if is_close then option_map code_text (option_map close_code s.besides.codes.ord_type)
        else kept s.fields.now 40 types,
  )
  writes rules.Time =
      cell_fields (Tag 59, if is_close then None else kept s.fields.now 59 times)

  -- the tag that it cannot say
  abbrev pub lacks : CodeOwn → Option ℕ
  lacks rules.TransType = lack_if (lacks_type s.besides.codes.exec_type) 150
  lacks rules.Original = lack_if (not (is_some (or_known (stands s 41) known_of))) 41
  lacks rule = None

-- THE DIRECTION IN THE CODE, where this original id is known
abbrev pub code : Said → Direction Besides CodeOwn Own
code known = record {
  kinds = own_kinds;
  apart = is_month;
  rule = rule_of known;
  reading = reading;
  writes = writes;
  lacks = lacks;
}
