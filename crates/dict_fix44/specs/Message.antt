-- Standard: FIX 4.4, the types of messages that are requests, reports and refusals.
-- Own: a field of a request or a report that has no row is outside the profile; in a refusal it is
-- passed over, and so is PossResend.
use Rattle.std.specs.Prelude.{ℕ, false, List, codes, Some, None, Result, if◌then◌else◌}
use Rattle.std.specs.declared.option.Option.{Option}
use Rattle.std.specs.Str.{bytes_eq}
use Rattle.field_groups.specs.declared.fault.SplitFault.{SplitFault}
use Rattle.field_groups.specs.Field.{Field}
use Rattle.message_tables.specs.Tables.{Item, Table, Message}
use Rattle.order_meaning.specs.declared.fault.Fault.{Fault}
use Rattle.first_faults.specs.Faults.{message_by}
use Rattle.refusal_parts.specs.Once.{once_by}
use Rattle.row_values.specs.Asked.{of_type}
use Rattle.row_values.specs.Kinds.{Kind}
use Rattle.rows_fix42.specs.Header.{table}
use Rattle.rows_fix50.specs.Header.{completed_by}
use Rattle.dict_fix44.specs.Requests.{asked44}
use Rattle.dict_fix44.specs.Reports.{execution_report, cancel_reject, session_reject}
use Rattle.dict_fix44.specs.Reports.{business_reject}

-- the table of a request, and that of a report, by its MsgType
abbrev pub request_table_of : List ℕ → Option (Table Kind)
request_table_of msg_type = of_type msg_type asked44

abbrev pub report_table_of : List ℕ → Option (Table Kind)
report_table_of msg_type =
    if bytes_eq msg_type (codes "8") then Some (table 56 execution_report) else
    (if bytes_eq msg_type (codes "9") then Some (table 57 cancel_reject) else None)

-- and that of a refusal
abbrev pub refusal_table : ℕ → List (Item Kind) → Table Kind
refusal_table letter items = record (table letter items) { strict = false }

abbrev pub refusal_table_of : List ℕ → Option (Table Kind)
refusal_table_of msg_type =
    if bytes_eq msg_type (codes "3") then Some (refusal_table 51 session_reject) else
    (if bytes_eq msg_type (codes "j") then Some (refusal_table 106 business_reject) else None)

-- a date says the month, too
abbrev pub message44_by : Option (Table Kind) → List Field → Option SplitFault
    → Result Message Fault
message44_by table fields fault = completed_by (message_by table fields fault)

-- THE REQUEST that a MsgType and the fields of a body are, with the fault that stopped them, if
-- any; or the first fault.
unfoldable pub request_message44 : List ℕ → List Field → Option SplitFault → Result Message Fault
request_message44 msg_type fields fault = message44_by (request_table_of msg_type) fields fault

-- and THE REPORT,
unfoldable pub report_message44 : List ℕ → List Field → Option SplitFault → Result Message Fault
report_message44 msg_type fields fault = message44_by (report_table_of msg_type) fields fault

-- and THE REFUSAL
unfoldable pub refusal44 : List ℕ → List Field → Option SplitFault → Result Message Fault
refusal44 msg_type fields fault = once_by (message_by (refusal_table_of msg_type) fields fault)
