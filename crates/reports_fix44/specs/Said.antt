-- Own: what the structs of the reports of FIX 4.4 say, row by row of their tables.
use Rattle.std.specs.Prelude.{[], ◌∷◌, Some}
use Rattle.std.specs.Option.{option_map}
use Rattle.typed_fields.specs.Number.{number_text}
use Rattle.typed_fields.specs.Stamp.{stamp_text}
use Rattle.message_tables.specs.Tables.{Tag, Message}
use Rattle.value_kinds.specs.ValueKind.{code_text}
use Rattle.reports_fix50.specs.declared.reports.Report50.{Report50}
use Rattle.reports_fix50.specs.Said.{executed_says}
use Rattle.reports_fix44.specs.declared.reports.CancelReject44.{CancelReject44}

-- what an execution report says: its max floor is MaxFloor (111)
abbrev pub report_says : Report50 → Message
report_says m = executed_says 111 m

-- what a cancel reject says
abbrev pub cancel_reject_says : CancelReject44 → Message
cancel_reject_says m = record {
  letter = 57;
  resend = m.resend;
  cells =
      (Tag 37, Some m.order_id) ∷
      (Tag 198, m.secondary_id) ∷
      (Tag 11, Some m.cl_ord_id) ∷
      (Tag 41, Some m.orig_id) ∷
      (Tag 39, Some (code_text m.ord_status)) ∷
      (Tag 1, m.account) ∷
      (Tag 60, option_map stamp_text m.transact_time) ∷
      (Tag 434, Some (code_text m.response_to)) ∷
      (Tag 102, option_map number_text m.cxl_reason) ∷
      (Tag 58, m.text) ∷
      [];
  groups = [];
}
