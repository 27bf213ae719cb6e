-- Own: the tables of the reports and refusals of FIX 4.4, each by its letter.
use Rattle.std.specs.Prelude.{List, Option, Some, Result}
use Rattle.field_groups.specs.declared.fault.SplitFault.{SplitFault}
use Rattle.field_groups.specs.Field.{Field}
use Rattle.message_tables.specs.Tables.{Table, Message}
use Rattle.order_meaning.specs.declared.fault.Fault.{Fault}
use Rattle.row_values.specs.Kinds.{Kind}
use Rattle.rows_fix42.specs.Header.{table}
use Rattle.dict_fix44.specs.Message.{message44_by, refusal_table}
use Rattle.dict_fix44.specs.Reports.{execution_report, cancel_reject, session_reject}
use Rattle.dict_fix44.specs.Reports.{business_reject}

abbrev pub report_table : Table Kind
report_table = table 56 execution_report

abbrev pub cancel_reject_table : Table Kind
cancel_reject_table = table 57 cancel_reject

abbrev pub session_reject_table : Table Kind
session_reject_table = refusal_table 51 session_reject

abbrev pub business_reject_table : Table Kind
business_reject_table = refusal_table 106 business_reject

-- the message of a report, of which a date says the month, too; or the first fault
abbrev pub report_by : Table Kind → List Field → Option SplitFault → Result Message Fault
report_by table fields fault = message44_by (Some table) fields fault
