-- Standard: the types of messages of FIX 5.0 SP2, volume 4, and of FIXT 1.1.
use Rattle.std.specs.Prelude.{ℕ, List, codes, Option, Some, None, Result, Err}
use Rattle.std.specs.Prelude.{if◌then◌else◌}
use Rattle.std.specs.Str.{bytes_eq}
use Rattle.field_groups.specs.declared.fault.SplitFault.{SplitFault}
use Rattle.field_groups.specs.Field.{Field}
use Rattle.message_tables.specs.Tables.{Table, Message}
use Rattle.order_meaning.specs.declared.fault.Fault.{Fault}
use Rattle.order_meaning.specs.declared.fault.Fault.TheVariants.{NotSupported}
use Rattle.row_values.specs.Kinds.{Kind}
use Rattle.first_faults.specs.Faults.{message_by}
use Rattle.refusal_parts.specs.Once.{refusal_by}
use Rattle.rows_fix50.specs.Header.{table, completed_by}
use Rattle.reports_fix50.specs.Reports.{execution_report, cancel_reject, session_reject}
use Rattle.reports_fix50.specs.Reports.{business_reject}

-- the table of each message, whose letter is its MsgType (35)
abbrev pub report_table : Table Kind
report_table = table 56 execution_report

abbrev pub cancel_reject_table : Table Kind
cancel_reject_table = table 57 cancel_reject

abbrev pub session_reject_table : Table Kind
session_reject_table = table 51 session_reject

abbrev pub business_reject_table : Table Kind
business_reject_table = table 106 business_reject

-- the table of a report, by its MsgType
abbrev pub report_table_of : List ℕ → Option (Table Kind)
report_table_of msg_type =
    if bytes_eq msg_type (codes "8") then Some report_table else
    (if bytes_eq msg_type (codes "9") then Some cancel_reject_table else None)

-- the message of a report, of which a date says the month, too; or the first fault
abbrev pub report_by : Table Kind → List Field → Option SplitFault → Result Message Fault
report_by table fields fault = completed_by (message_by (Some table) fields fault)

-- THE MESSAGE that a MsgType and the fields of a body are, with the fault that stopped them, if
-- any; or the first fault.
unfoldable pub message50 : List ℕ → List Field → Option SplitFault → Result Message Fault
message50 msg_type fields fault =
    if bytes_eq msg_type (codes "8") then report_by report_table fields fault else
    (if bytes_eq msg_type (codes "9") then report_by cancel_reject_table fields fault else
    (if bytes_eq msg_type (codes "3") then refusal_by session_reject_table fields fault else
    (if bytes_eq msg_type (codes "j") then refusal_by business_reject_table fields fault else
    Err NotSupported)))
