-- Own: which fault of a body is told of a message; the reasons are those of
-- SessionRejectReason(373), FIX 4.2 and FIXT 1.1, Reject.
use Rattle.std.specs.Prelude.{List, Some, None, Result, Ok, Err}
use Rattle.std.specs.declared.option.Option.{Option}
use Rattle.field_groups.specs.declared.fault.SplitFault.{SplitFault}
use Rattle.field_groups.specs.declared.fault.SplitFault.TheVariants.{NoTag, BadTag, NoEnd}
use Rattle.field_groups.specs.declared.fault.SplitFault.TheVariants.{DataLength, TooMany}
use Rattle.field_groups.specs.Field.{Field}
use Rattle.message_tables.specs.declared.table_fault.TableFault.{TableFault}
use Rattle.message_tables.specs.declared.table_fault.TableFault.TheVariants.{Reason, Outside}
use Rattle.message_tables.specs.Tables.{Table, Message}
use Rattle.message_tables.specs.FirstFault.{message_of}
use Rattle.order_meaning.specs.declared.fault.Fault.{Fault}
use Rattle.order_meaning.specs.declared.fault.Fault.TheVariants.{Session, NoCounterpart}
use Rattle.order_meaning.specs.declared.fault.Fault.TheVariants.{NotSupported}
use Rattle.row_values.specs.Kinds.{Kind, judge}

-- the reasons: 0 Invalid tag number, 6 Incorrect data format for value, 5 Value is incorrect
abbrev pub of_split : SplitFault → Fault
of_split (NoTag at) = Session None 0
of_split (BadTag at) = Session None 0
of_split (NoEnd at) = Session None 6
of_split (DataLength tag) = Session (Some tag) 6
of_split TooMany = Session None 5

abbrev pub of_table : TableFault → Fault
of_table (Reason tag reason) = Session (Some tag) reason
of_table (Outside tag) = NoCounterpart tag

abbrev pub told : Result Message TableFault → Result Message Fault
told (Ok message) = Ok message
told (Err fault) = Err (of_table fault)

-- THE MESSAGE that fields are beside a table, with the fault that stopped them, if any; or the
-- first fault. Without a table the type is not supported.
abbrev pub message_by : Option (Table Kind) → List Field → Option SplitFault
    → Result Message Fault
message_by None fields fault = Err NotSupported
message_by (Some table) fields (Some fault) = Err (of_split fault)
message_by (Some table) fields None = told (message_of judge table fields)
