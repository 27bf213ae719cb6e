-- Standard: the types of messages of FIX 5.0 SP2, volume 4, that are requests.
use Rattle.std.specs.Prelude.{ℕ, List, Option, Result}
use Rattle.field_groups.specs.declared.fault.SplitFault.{SplitFault}
use Rattle.field_groups.specs.Field.{Field}
use Rattle.message_tables.specs.Tables.{Table, Message}
use Rattle.order_meaning.specs.declared.fault.Fault.{Fault}
use Rattle.row_values.specs.Asked.{of_type}
use Rattle.row_values.specs.Kinds.{Kind}
use Rattle.first_faults.specs.Faults.{message_by}
use Rattle.rows_fix50.specs.Header.{completed_by}
use Rattle.dict_fix50.specs.Requests.{asked50}

-- the table of a MsgType
abbrev pub table_of : List ℕ → Option (Table Kind)
table_of msg_type = of_type msg_type asked50

abbrev pub message50_by : Option (Table Kind) → List Field → Option SplitFault
    → Result Message Fault
message50_by table fields fault = completed_by (message_by table fields fault)

-- THE MESSAGE that a MsgType and the fields of a body are, with the fault that stopped them, if
-- any; or the first fault.
unfoldable pub message50 : List ℕ → List Field → Option SplitFault → Result Message Fault
message50 msg_type fields fault = message50_by (table_of msg_type) fields fault
