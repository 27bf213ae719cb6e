-- Standard: FIX 4.2, Execution Report (8), Order Cancel Reject (9), and Field Definitions: what
-- their fields mean.
use Rattle.std.specs.Prelude.{ℕ, List, Some, None, ◌==◌, ◌||◌}
use Rattle.std.specs.Prelude.{if◌then◌else◌}
use Rattle.std.specs.declared.option.Option.{Option}
use Rattle.std.specs.Result.{result_ok}
unfoldable pub use Rattle.row_values.specs.Phases.{phase_of}
use Rattle.row_values.specs.Amounts.{amount_if, number_if}
use Rattle.row_values.specs.Executions.{execution_by}
use Rattle.field_groups.specs.Field.{Field}
use Rattle.message_tables.specs.Tables.{Tag, Cell, Said, Message, ◌>>=◌, said_at, text_in}
use Rattle.message_tables.specs.Tables.{code_if, code_in}
use Rattle.order_meaning.specs.Report.{Exec, Trade, Correct, Bust, Status, Other}
use Rattle.order_meaning.specs.Report.{ExecutionReport, CancelReject, Report, Executed, NotCanceled}
use Rattle.rows_fix42.specs.Meaning.{order_type_of, is_on_close, time_of, maturity_of}
use Rattle.reports_fix42.specs.Message.{message42}

-- ---- codes

-- What a report tells of, by ExecTransType (20): 0 New, 1 Cancel, 2 Correct, 3 Status; and of a new
-- one by ExecType (150), where 1 is Partial fill and 2 is Fill.
unfoldable pub exec_of : (trans_type exec_type : ℕ) → Exec
exec_of trans_type exec_type =
    if trans_type == 49 then Bust else
    (if trans_type == 50 then Correct else
    (if trans_type == 51 then Status else
    (if exec_type == 49 || exec_type == 50 then Trade else Other exec_type)))

-- ExecID (17), which a status has none of: 0 stands there
abbrev pub exec_id_of : List Cell → Said
exec_id_of cells = if code_in cells 20 == 51 then None else Some (text_in cells 17)

-- ---- reports

abbrev pub execution_of : Message → ExecutionReport
execution_of m = execution_by m (record {
  client_id = said_at m.cells (Tag 109);
  exec_broker = said_at m.cells (Tag 76);
  clearing_firm = said_at m.cells (Tag 439);
  exec_id = exec_id_of m.cells;
  exec = exec_of (code_in m.cells 20) (code_in m.cells 150);
  ord_status = phase_of (code_in m.cells 39);
  rej_reason = number_if m.cells 103;
  restate_reason = number_if m.cells 378;
  maturity = maturity_of (said_at m.cells (Tag 200)) (said_at m.cells (Tag 205));
  ord_type = code_if m.cells 40 >>= order_type_of;
  time_in_force = time_of (is_on_close (code_if m.cells 40)) (code_if m.cells 59);
  capacity = code_if m.cells 47;
  max_floor = amount_if m.cells 111;
  text = said_at m.cells (Tag 58);
})

abbrev pub cancel_reject_of : Message → CancelReject
cancel_reject_of m = record {
  resend = m.resend;
  order_id = text_in m.cells 37;
  secondary_id = said_at m.cells (Tag 198);
  cl_ord_id = text_in m.cells 11;
  orig_id = said_at m.cells (Tag 41);
  ord_status = phase_of (code_in m.cells 39);
  account = said_at m.cells (Tag 1);
  transact_time = said_at m.cells (Tag 60);
  response_to = code_in m.cells 434;
  cxl_reason = number_if m.cells 102;
  text = said_at m.cells (Tag 58);
}

-- the report of a message, by its letter
abbrev pub report42 : Message → Option Report
report42 m =
    if m.letter == 56 then Some (Executed (execution_of m)) else
    (if m.letter == 57 then Some (NotCanceled (cancel_reject_of m)) else None)

-- THE SENSE of a report of FIX 4.2, by its MsgType and its fields
unfoldable pub report_sense42 : List ℕ → List Field → Option Report
report_sense42 msg_type fields = result_ok (message42 msg_type fields None) >>= report42
