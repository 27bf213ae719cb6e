-- Standard: FIX 4.2, the types of messages. Own: what is done with fields outside the profile of a
-- refusal.
use Rattle.std.specs.Prelude.{ℕ, false, List, codes, Some, Result, Err}
use Rattle.std.specs.Prelude.{if◌then◌else◌}
use Rattle.std.specs.declared.option.Option.{Option}
use Rattle.std.specs.Str.{bytes_eq}
use Rattle.field_groups.specs.declared.fault.SplitFault.{SplitFault}
use Rattle.field_groups.specs.Field.{Field}
use Rattle.message_tables.specs.Tables.{Item, Table, Message}
use Rattle.order_meaning.specs.declared.fault.Fault.{Fault}
use Rattle.order_meaning.specs.declared.fault.Fault.TheVariants.{NotSupported}
use Rattle.row_values.specs.Kinds.{Kind}
use Rattle.first_faults.specs.Faults.{message_by}
use Rattle.refusal_parts.specs.Once.{refusal_by}
use Rattle.rows_fix42.specs.Header.{table}
use Rattle.reports_fix42.specs.Reports.{execution_report, cancel_reject, session_reject}
use Rattle.reports_fix42.specs.Reports.{business_reject}

-- in a refusal a field that has no row is passed over
abbrev pub refusal_table : ℕ → List (Item Kind) → Table Kind
refusal_table letter items = record (table letter items) { strict = false }

-- the table of each message
abbrev pub execution_report_table : Table Kind
execution_report_table = table 56 execution_report

abbrev pub cancel_reject_table : Table Kind
cancel_reject_table = table 57 cancel_reject

abbrev pub session_reject_table : Table Kind
session_reject_table = refusal_table 51 session_reject

abbrev pub business_reject_table : Table Kind
business_reject_table = refusal_table 106 business_reject

-- THE MESSAGE that a MsgType and the fields of a body are, with the fault that stopped them, if
-- any; or the first fault.
unfoldable pub message42 : List ℕ → List Field → Option SplitFault → Result Message Fault
message42 msg_type fields fault =
    if bytes_eq msg_type (codes "8") then message_by (Some execution_report_table) fields fault else
    (if bytes_eq msg_type (codes "9") then message_by (Some cancel_reject_table) fields fault else
    (if bytes_eq msg_type (codes "3") then refusal_by session_reject_table fields fault else
    (if bytes_eq msg_type (codes "j") then refusal_by business_reject_table fields fault else
    Err NotSupported)))
