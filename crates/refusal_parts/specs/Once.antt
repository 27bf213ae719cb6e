-- Own: a refusal is the same whether it repeats what was sent before or not.
use Rattle.std.specs.Prelude.{false, List, Some, Result, Ok, Err}
use Rattle.std.specs.declared.option.Option.{Option}
use Rattle.field_groups.specs.declared.fault.SplitFault.{SplitFault}
use Rattle.field_groups.specs.Field.{Field}
use Rattle.message_tables.specs.Tables.{Table, Message}
use Rattle.order_meaning.specs.declared.fault.Fault.{Fault}
use Rattle.row_values.specs.Kinds.{Kind}
use Rattle.first_faults.specs.Faults.{message_by}

-- a message that does not say whether it repeats another, PossResend (97)
abbrev pub once : Message → Message
once m = record m { resend = false }

abbrev pub once_by : Result Message Fault → Result Message Fault
once_by (Ok message) = Ok (once message)
once_by (Err fault) = Err fault

-- the message of a refusal that fields are beside a table, with the fault that stopped them, if
-- any; or the first fault
abbrev pub refusal_by : Table Kind → List Field → Option SplitFault → Result Message Fault
refusal_by table fields fault = once_by (message_by (Some table) fields fault)
