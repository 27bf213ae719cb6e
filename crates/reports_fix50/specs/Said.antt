-- Own: what the structs of the reports of FIX 5.0 SP2 say, row by row of their tables.
use Rattle.std.specs.Prelude.{ℕ, [], ◌∷◌, map, Some, option_and_then}
use Rattle.std.specs.Option.{option_map}
use Rattle.typed_fields.specs.Dec.{dec_text}
use Rattle.typed_fields.specs.Day.{day_text}
use Rattle.typed_fields.specs.Number.{number_text}
use Rattle.typed_fields.specs.Stamp.{stamp_text}
use Rattle.message_tables.specs.Tables.{Tag, Role, Message}
use Rattle.value_kinds.specs.ValueKind.{code_text}
use Rattle.row_values.specs.Contras.{contra_cells}
use Rattle.row_values.specs.Lines.{month_text, party_cells, date_text}
use Rattle.rows_fix50.specs.Meaning.{id_of}
use Rattle.reports_fix50.specs.declared.reports.Report50.{Report50}
use Rattle.reports_fix50.specs.declared.reports.CancelReject50.{CancelReject50}

-- what an execution report says, whose max floor stands at this tag
abbrev pub executed_says : ℕ → Report50 → Message
executed_says floor m = record {
  letter = 56;
  resend = m.resend;
  cells =
      (Tag 37, Some m.order_id) ∷
      (Tag 198, m.secondary_id) ∷
      (Tag 11, m.cl_ord_id) ∷
      (Tag 41, m.orig_id) ∷
      (Role 3, id_of 3 m.parties) ∷
      (Role 1, id_of 1 m.parties) ∷
      (Role 4, id_of 4 m.parties) ∷
      (Tag 17, Some m.exec_id) ∷
      (Tag 19, m.ref_id) ∷
      (Tag 150, Some (code_text m.exec_type)) ∷
      (Tag 39, Some (code_text m.ord_status)) ∷
      (Tag 103, option_map number_text m.rej_reason) ∷
      (Tag 378, option_map number_text m.restate_reason) ∷
      (Tag 1, m.account) ∷
      (Tag 63, option_map code_text m.settl_type) ∷
      (Tag 64, option_map day_text m.settl_date) ∷
      (Tag 55, Some m.symbol) ∷
      (Tag 65, m.symbol_sfx) ∷
      (Tag 48, m.security_id) ∷
      (Tag 22, option_map code_text m.id_source) ∷
      (Tag 167, m.security_type) ∷
      (Tag 200, option_map month_text m.maturity) ∷
      (Tag 541, option_and_then date_text m.maturity) ∷
      (Tag 207, m.security_exchange) ∷
      (Tag 54, Some (code_text m.side)) ∷
      (Tag 38, option_map dec_text m.order_qty) ∷
      (Tag 40, option_map code_text m.ord_type) ∷
      (Tag 44, option_map dec_text m.price) ∷
      (Tag 99, option_map dec_text m.stop_px) ∷
      (Tag 15, m.currency) ∷
      (Tag 59, option_map code_text m.time_in_force) ∷
      (Tag 432, option_map day_text m.expire_date) ∷
      (Tag 126, option_map stamp_text m.expire_time) ∷
      (Tag 528, option_map code_text m.capacity) ∷
      (Tag 32, option_map dec_text m.last_qty) ∷
      (Tag 31, option_map dec_text m.last_px) ∷
      (Tag 30, m.last_mkt) ∷
      (Tag 151, Some (dec_text m.leaves)) ∷
      (Tag 14, Some (dec_text m.cum)) ∷
      (Tag 6, Some (dec_text m.avg)) ∷
      (Tag 75, option_map day_text m.trade_date) ∷
      (Tag 60, option_map stamp_text m.transact_time) ∷
      (Tag 110, option_map dec_text m.min_qty) ∷
      (Tag floor, option_map dec_text m.max_floor) ∷
      (Tag 58, m.text) ∷
      [];
  groups = (453, map party_cells m.parties) ∷ (382, map contra_cells m.contras) ∷ [];
}

-- in FIX 5.0 SP2 it is DisplayQty (1138)
abbrev pub report_says : Report50 → Message
report_says m = executed_says 1138 m

-- what a cancel reject says
abbrev pub cancel_reject_says : CancelReject50 → Message
cancel_reject_says m = record {
  letter = 57;
  resend = m.resend;
  cells =
      (Tag 37, Some m.order_id) ∷
      (Tag 198, m.secondary_id) ∷
      (Tag 11, Some m.cl_ord_id) ∷
      (Tag 41, m.orig_id) ∷
      (Tag 39, Some (code_text m.ord_status)) ∷
      (Tag 1, m.account) ∷
      (Tag 60, option_map stamp_text m.transact_time) ∷
      (Tag 434, Some (code_text m.response_to)) ∷
      (Tag 102, option_map number_text m.cxl_reason) ∷
      (Tag 58, m.text) ∷
      [];
  groups = [];
}
