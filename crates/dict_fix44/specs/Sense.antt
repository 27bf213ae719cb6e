-- Standard: FIX 4.4, volume 4, New Order - Single (D), Order Cancel Request (F), Order
-- Cancel/Replace Request (G), Order Status Request (H), Execution Report (8), Order Cancel Reject
-- (9), and volume 6: what their fields mean.
-- Own: an order that does not say HandlInst is one for automated execution without a broker.
use Rattle.std.specs.Prelude.{ℕ, List, Option, Some, None, ◌==◌, unwrap_or, if◌then◌else◌}
use Rattle.std.specs.Result.{result_ok}
use Rattle.field_groups.specs.Field.{Field}
use Rattle.message_tables.specs.Tables.{Tag, Role, Said, Cell, Message, ◌>>=◌, said_at, text_in}
use Rattle.message_tables.specs.Tables.{code_in, code_if}
use Rattle.order_meaning.specs.Request.{RequestKind, New, Cancel, Replace, Status, Request}
use Rattle.order_meaning.specs.Report.{Exec, Trade, Correct, Bust, Status as OrderStatus, Other}
use Rattle.order_meaning.specs.Report.{ExecutionReport, CancelReject, Report, Executed}
use Rattle.order_meaning.specs.Report.{NotCanceled}
use Rattle.row_values.specs.Amounts.{amount_if, number_if}
use Rattle.row_values.specs.Asked.{of_letter, request_by}
use Rattle.row_values.specs.Executions.{execution_by}
unfoldable pub use Rattle.row_values.specs.Phases.{phase_of}
use Rattle.rows_fix50.specs.Meaning.{terms_of, maturity_of}
use Rattle.dict_fix44.specs.Message.{report_message44, request_message44}

-- ---- requests

-- HandlInst (21), which orders and replacements have: 1, automated execution without a broker,
-- where they say none
abbrev pub hand_inst_of : RequestKind → Option ℕ → Option ℕ
hand_inst_of New said = Some (unwrap_or said 49)
hand_inst_of Replace said = Some (unwrap_or said 49)
hand_inst_of Cancel said = None
hand_inst_of Status said = None

-- what a message asks for; at the close (7) a market or limit order is one of another type
abbrev pub request_of : RequestKind → Message → Request
request_of kind m = request_by kind m (record {
  client_id = said_at m.cells (Role 3);
  exec_broker = said_at m.cells (Role 1);
  clearing_firm = said_at m.cells (Role 4);
  hand_inst = hand_inst_of kind (code_if m.cells 21);
  max_floor = amount_if m.cells 111;
  maturity = maturity_of (said_at m.cells (Tag 200)) (said_at m.cells (Tag 541));
  ord_type = (terms_of (code_if m.cells 40) (code_if m.cells 59)).0;
  time_in_force = (terms_of (code_if m.cells 40) (code_if m.cells 59)).1;
  capacity = code_if m.cells 528;
})

-- the request of a message, by its letter
abbrev pub request44 : Message → Option Request
request44 m = of_letter m.letter (λ kind. request_of kind m)

-- ---- reports

-- What a report tells of, by its ExecType (150): F trade, G trade correct, H trade cancel, I order
-- status; any other is what it says.
unfoldable pub exec_of : ℕ → Exec
exec_of exec_type =
    if exec_type == 70 then Trade else
    (if exec_type == 71 then Correct else
    (if exec_type == 72 then Bust else
    (if exec_type == 73 then OrderStatus else Other exec_type)))

-- the ExecID (17), which counts for nothing in a status
abbrev pub exec_id_of : List Cell → Said
exec_id_of cells = if code_in cells 150 == 73 then None else Some (text_in cells 17)

-- what an execution report tells
abbrev pub execution_of : Message → ExecutionReport
execution_of m = execution_by m (record {
  client_id = said_at m.cells (Role 3);
  exec_broker = said_at m.cells (Role 1);
  clearing_firm = said_at m.cells (Role 4);
  exec_id = exec_id_of m.cells;
  exec = exec_of (code_in m.cells 150);
  ord_status = phase_of (code_in m.cells 39);
  rej_reason = number_if m.cells 103;
  restate_reason = number_if m.cells 378;
  maturity = maturity_of (said_at m.cells (Tag 200)) (said_at m.cells (Tag 541));
  ord_type = (terms_of (code_if m.cells 40) (code_if m.cells 59)).0;
  time_in_force = (terms_of (code_if m.cells 40) (code_if m.cells 59)).1;
  capacity = code_if m.cells 528;
  max_floor = amount_if m.cells 111;
  text = said_at m.cells (Tag 58);
})

-- what a cancel reject tells
abbrev pub cancel_reject_of : Message → CancelReject
cancel_reject_of m = record {
  resend = m.resend;
  order_id = text_in m.cells 37;
  secondary_id = said_at m.cells (Tag 198);
  cl_ord_id = text_in m.cells 11;
  orig_id = said_at m.cells (Tag 41);
  ord_status = phase_of (code_in m.cells 39);
  account = said_at m.cells (Tag 1);
  transact_time = said_at m.cells (Tag 60);
  response_to = code_in m.cells 434;
  cxl_reason = number_if m.cells 102;
  text = said_at m.cells (Tag 58);
}

-- the report of a message, by its letter
abbrev pub report44 : Message → Option Report
report44 m =
    if m.letter == 56 then Some (Executed (execution_of m)) else
    (if m.letter == 57 then Some (NotCanceled (cancel_reject_of m)) else None)

-- ---- THE SENSE of a message of FIX 4.4, by its MsgType and its fields: as a request, and as a
-- report
unfoldable pub sense44 : List ℕ → List Field → Option Request
sense44 msg_type fields = result_ok (request_message44 msg_type fields None) >>= request44

unfoldable pub report_sense44 : List ℕ → List Field → Option Report
report_sense44 msg_type fields = result_ok (report_message44 msg_type fields None) >>= report44
