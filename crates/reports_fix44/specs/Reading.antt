-- Inside: reports that say what the fields say.
use Rattle.std.specs.Prelude.{◌≡◌, List, None}
use Rattle.value_kinds.specs.ValueKind.{Code}
use Rattle.field_groups.specs.Field.{Field}
use Rattle.message_tables.specs.FirstFault.{first_fault, message_in}
use Rattle.message_tables.specs.Tables.{Said}
use Rattle.row_values.specs.Kinds.{Value, judge, said}
use Rattle.rows_fix50.specs.Header.{completed}
use Rattle.dict_fix44.specs.Reports.{exec_types}
use Rattle.reports_fix44.specs.Message.{cancel_reject_table, report_table}
use Rattle.reports_fix44.specs.Said.{cancel_reject_says, report_says}
use Rattle.reports_fix50.specs.declared.reports.Report50.{Report50}
use Rattle.reports_fix44.specs.declared.reports.CancelReject44.{CancelReject44}

-- ExecType, as the fields of an execution report say it
abbrev pub exec_type_said : List Field → Said
exec_type_said fields = said fields 150 (Value (Code exec_types))

-- what an execution report says is what fields at no fault say
pub record IsReport (fields : List Field) (m : Report50) : Type 0 where
  pub means : first_fault judge report_table fields ≡ None
      → report_says m ≡ completed (message_in judge report_table fields)

-- and so is what a cancel reject says
pub record IsCancelReject (fields : List Field) (m : CancelReject44) : Type 0 where
  pub means : first_fault judge cancel_reject_table fields ≡ None
      → cancel_reject_says m ≡ completed (message_in judge cancel_reject_table fields)
