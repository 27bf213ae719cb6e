-- Own: a report that goes down as a struct: what goes by the rules, and what is put back.
use Rattle.std.specs.Prelude.{◌≡◌, ℕ, List, [], Ok, Option, None, Err, false}
use Rattle.field_groups.specs.Field.{Field}
use Rattle.field_groups.specs.Fields.{SplitsInto}
use Rattle.field_groups.specs.declared.fault.SplitFault.{SplitFault}
use Rattle.message_tables.specs.Tables.{Message, Said}
use Rattle.order_meaning.specs.declared.fault.Lack.{Lack}
use Rattle.order_meaning.specs.declared.fault.Lack.TheVariants as lacks
use Rattle.rows_fix50.specs.Meaning.{id_of}
use Rattle.reports_fix42.specs.declared.reports.Report42.{Report42}
use Rattle.reports_fix50.specs.Message.{message50, report_table_of}
use Rattle.reports_fix50.specs.declared.reports.Report50.{Report50}
use Rattle.reports_fix50.specs.declared.reports.CancelReject50.{CancelReject50}
use Rattle.report_rules.specs.Down.{IsGoodBy}
use Rattle.report_rules.specs.Rules.{down_message}

-- why no report goes down: exactly its lack; want of memory is free
abbrev pub Lacks : Said → Message → Lack → Type 0
Lacks known m lacks.NoMemory = Unit {0}
Lacks known m (lacks.Tag tag) = down_message known m ≡ Err tag

-- a body whose fields are at no fault beside the table of its type
abbrev pub IsGoodBody : List ℕ → List ℕ → Type 0
IsGoodBody type body = (fields : List Field) (fault : Option SplitFault)
    → SplitsInto body fields fault → IsGoodBy (report_table_of type) fields

-- a body whose fields say a message
abbrev pub Says : List ℕ → List ℕ → Message → Type 0
Says type body m = (fields : List Field) (fault : Option SplitFault)
    → SplitsInto body fields fault → message50 type fields None ≡ Ok m

-- a report as its content has it, without PossResend; and without its parties, so that it has at
-- most 256 fields
abbrev pub bare : Report50 → Report50
bare m = record m { resend = false; parties = [] }

abbrev pub once : CancelReject50 → CancelReject50
once m = record m { resend = false }

-- a report with what its content does not have
abbrev pub with_parties : Report50 → Report42 → Report42
with_parties m r = record r {
  resend = m.resend;
  client_id = id_of 3 m.parties;
  exec_broker = id_of 1 m.parties;
  clearing_firm = id_of 4 m.parties;
}
