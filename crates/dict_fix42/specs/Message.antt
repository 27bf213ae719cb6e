-- Standard: FIX 4.2, the types of messages of "Order Messages".
use Rattle.std.specs.Prelude.{ℕ, List, Option, Result}
use Rattle.field_groups.specs.declared.fault.SplitFault.{SplitFault}
use Rattle.field_groups.specs.Field.{Field}
use Rattle.message_tables.specs.Tables.{Table, Message}
use Rattle.order_meaning.specs.declared.fault.Fault.{Fault}
use Rattle.row_values.specs.Asked.{of_type}
use Rattle.row_values.specs.Kinds.{Kind}
use Rattle.first_faults.specs.Faults.{message_by}
use Rattle.dict_fix42.specs.Requests.{asked42}

-- the table of a MsgType
abbrev pub table_of : List ℕ → Option (Table Kind)
table_of msg_type = of_type msg_type asked42

-- THE MESSAGE that a MsgType and the fields of a body are, with the fault that stopped them, if
-- any; or the first fault.
unfoldable pub message42 : List ℕ → List Field → Option SplitFault → Result Message Fault
message42 msg_type fields fault = message_by (table_of msg_type) fields fault
