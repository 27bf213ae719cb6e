-- Inside: the kinds of rules of requests as the code has them, and what it writes by each, straight
-- from fields.
use Rattle.std.specs.Prelude.{ℕ, ◌==◌, Bool, false, List, [], ◌∷◌, Option, None, if◌then◌else◌}
use Rattle.std.specs.List.{flat_map}
use Rattle.field_groups.specs.Field.{Field}
use Rattle.message_tables.specs.Content.{cell_fields, group_fields, line_fields}
use Rattle.message_tables.specs.Tables.{Said, Table, Tag, ◌>>=◌, code_of}
use Rattle.party_translate.specs.Parties.{line_of}
use Rattle.row_values.specs.Lines.{party_cells}
use Rattle.row_values.specs.Kinds.{DayOf, Kind, Value, said}
use Rattle.value_kinds.specs.ValueKind.{MonthYear}
use Rattle.rule_rows.specs.ByRules.{lack_if}
use Rattle.rule_rows.specs.Rules.{By}
use Rattle.rule_rows.specs.Texts.{OfKind, Own as OwnText, Reading, is_any}
use Rattle.rule_rows.specs.declared.source.Source.{Source as ReadSource}
use Rattle.rule_rows.specs.CodeRules.{Code, stands}
use Rattle.request_rules.specs.declared.reading.Good.{Good}
use Rattle.request_rules.specs.declared.rules.Own.{Own as CodeOwn}
use Rattle.request_rules.specs.declared.rules.Own.TheVariants as rules
use Rattle.request_rules.specs.Rules.{Own, Rule, Listed, Parties, PartyOf, Month, Date, OrdType}
use Rattle.request_rules.specs.Rules.{Time, Who, Client, Broker, Firm, date_up, is_late}
use Rattle.request_rules.specs.Rules.{is_unlisted}
use Rattle.request_rules.specs.Rules.{own_kinds, party_lines, time_up, type_up}

-- the rule that a kind of the code is
abbrev pub who_of : ℕ → Who
who_of role = if role == 3 then Client else (if role == 1 then Broker else Firm)

abbrev pub rule_of : CodeOwn → Rule
rule_of (rules.Listed from to listed) = By (Listed from to listed.now)
rule_of rules.Parties = By Parties
rule_of (rules.PartyOf role) = By (PartyOf (who_of role))
rule_of rules.Month = By Month
rule_of rules.Date = By Date
rule_of rules.OrdType = By OrdType
rule_of rules.Time = By Time

-- the line of a party of a role
abbrev pub party_fields : ℕ → Said → List Field
party_fields role id = flat_map (λ line. line_fields (party_cells line)) (line_of role id)

-- what the code reads by a rule
abbrev pub reading : Table Kind → CodeOwn → List Reading
reading table (rules.Listed from to listed) = OwnText from ∷ []
reading table rules.Parties = OwnText 109 ∷ OwnText 76 ∷ OwnText 439 ∷ []
reading table rules.Month = OfKind is_any (Value MonthYear) 200 ∷ []
reading table rules.Date =
    OfKind is_any (Value MonthYear) 200 ∷ OfKind is_any (DayOf 200) 205 ∷ []
reading table rules.OrdType = OwnText 40 ∷ []
reading table rules.Time = OwnText 40 ∷ OwnText 59 ∷ []
reading table rule = []

-- what the message says is what its row says
abbrev pub is_apart : ℕ → Bool
is_apart tag = false

module _ (fields : List Field) where
  -- the month and the date of the maturity
  abbrev pub month : Said
  month = said fields 200 (Value MonthYear)

  abbrev pub date : Said
  date = date_up month (said fields 205 (DayOf 200))

abbrev pub Source : Type 0
Source = ReadSource (Unit {0})

-- what the code reads of good fields
abbrev pub source_of : Good → Source
source_of good = record { fields = good.fields; table = good.table; besides = tt }

module _ (s : Source) where
  -- WHAT THE CODE WRITES by a rule
  abbrev pub writes : CodeOwn → List Field
  writes (rules.Listed from to listed) = cell_fields (Tag to, stands s from)
  writes rules.Parties = group_fields 453 (party_lines (stands s 109) (stands s 76) (stands s 439))
  writes (rules.PartyOf role) = []
  writes rules.Month = cell_fields (Tag 200, month s.fields.now)
  writes rules.Date = cell_fields (Tag 541, date s.fields.now)
  writes rules.OrdType = cell_fields (Tag 40, type_up (stands s 40))
  writes rules.Time = cell_fields (Tag 59, time_up (stands s 40) (stands s 59))

  -- the tag that it cannot say
  abbrev pub lacks : CodeOwn → Option ℕ
  lacks (rules.Listed from to listed) =
      lack_if (is_unlisted listed.now (stands s from >>= code_of)) from
  lacks rules.Time = lack_if (is_late (stands s 40 >>= code_of) (stands s 59 >>= code_of)) 59
  lacks rule = None

-- THE DIRECTION IN THE CODE
abbrev pub code : Code (Unit {0}) CodeOwn Own
code = record {
  kinds = own_kinds;
  apart = is_apart;
  rule = rule_of;
  reading = reading;
  writes = writes;
  lacks = lacks;
}
