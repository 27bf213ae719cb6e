-- Standard: FIX 5.0 SP2, volume 4, Execution Report (8), Order Cancel Reject (9), and volume 6:
-- what their fields mean.
-- Own: a reason that FIX 4.2 lacks counts as another one, and the text tells it.
use Rattle.std.specs.Prelude.{ℕ, List, [], ◌∷◌, ◌++◌, take, codes, Option, Some, None, ◌==◌}
use Rattle.std.specs.Prelude.{◌||◌, if◌then◌else◌, nat_le}
use Rattle.std.specs.Option.{option_map}
use Rattle.std.specs.Result.{result_ok}
use Rattle.std.specs.Fmt.{decimal}
use Rattle.field_groups.specs.Field.{Field}
use Rattle.message_tables.specs.Tables.{Tag, Role, Said, Cell, Message, ◌>>=◌, said_at}
use Rattle.message_tables.specs.Tables.{text_in, code_in, code_if}
use Rattle.order_meaning.specs.Report.{Exec, Trade, Correct, Bust, Status, Other, ExecutionReport}
use Rattle.order_meaning.specs.Report.{CancelReject, Report, Executed, NotCanceled}
unfoldable pub use Rattle.row_values.specs.Phases.{phase_of}
use Rattle.row_values.specs.Amounts.{amount_if, number_if}
use Rattle.row_values.specs.Executions.{execution_by}
use Rattle.rows_fix50.specs.Meaning.{terms_of, maturity_of}
use Rattle.reports_fix50.specs.Message.{message50}

-- ---- codes

-- What a report tells of, by its ExecType (150): J, a trade in a clearing hold, and K, one released
-- to clearing, have no sense here; F trade, G trade correct, H trade cancel; I order status and L
-- triggered or activated by system are a status.
unfoldable pub exec_of : ℕ → Option Exec
exec_of exec_type =
    if exec_type == 74 || exec_type == 75 then None else
    (if exec_type == 70 then Some Trade else
    (if exec_type == 71 then Some Correct else
    (if exec_type == 72 then Some Bust else
    (if exec_type == 73 || exec_type == 76 then Some Status else Some (Other exec_type)))))

-- the ExecID (17), which counts for nothing in a status
abbrev pub exec_id_of : List Cell → Said
exec_id_of cells =
    if code_in cells 150 == 73 || code_in cells 150 == 76 then None else Some (text_in cells 17)

-- ---- reasons that FIX 4.2 lacks

-- a reason above the last one of FIX 4.2 counts as another
abbrev pub reason_within : ℕ → ℕ → ℕ → ℕ
reason_within last other reason = if nat_le reason last then reason else other

-- such a reason, as the text tells it: its tag, and its number
abbrev pub reason_told : ℕ → ℕ → Option ℕ → List ℕ
reason_told tag last None = []
reason_told tag last (Some reason) =
    if nat_le reason last then []
    else codes " [" ++ decimal tag ++ codes "=" ++ decimal reason ++ codes "]"

-- the most bytes of a text that stay before the reasons that it tells
abbrev pub most_before_reasons : ℕ
most_before_reasons = 2000

-- a text that tells reasons at its end; without a text they stand without their first space
abbrev pub telling : Said → List ℕ → Said
telling text [] = text
telling None (space ∷ told) = Some told
telling (Some text) told = Some (take most_before_reasons text ++ told)

-- ---- messages

-- what an execution report tells
abbrev pub execution_of : Message → Exec → ExecutionReport
execution_of m exec = execution_by m (record {
  client_id = said_at m.cells (Role 3);
  exec_broker = said_at m.cells (Role 1);
  clearing_firm = said_at m.cells (Role 4);
  exec_id = exec_id_of m.cells;
  exec = exec;
  ord_status = phase_of (code_in m.cells 39);
  rej_reason = option_map (reason_within 8 0) (number_if m.cells 103);
  restate_reason = option_map (reason_within 5 4) (number_if m.cells 378);
  maturity = maturity_of (said_at m.cells (Tag 200)) (said_at m.cells (Tag 541));
  ord_type = (terms_of (code_if m.cells 40) (code_if m.cells 59)).0;
  time_in_force = (terms_of (code_if m.cells 40) (code_if m.cells 59)).1;
  capacity = code_if m.cells 528;
  max_floor = amount_if m.cells 1138;
  text = telling (said_at m.cells (Tag 58))
      (reason_told 103 8 (number_if m.cells 103) ++ reason_told 378 5 (number_if m.cells 378));
})

-- what a cancel reject tells
abbrev pub cancel_reject_of : Message → CancelReject
cancel_reject_of m = record {
  resend = m.resend;
  order_id = text_in m.cells 37;
  secondary_id = said_at m.cells (Tag 198);
  cl_ord_id = text_in m.cells 11;
  orig_id = said_at m.cells (Tag 41);
  ord_status = phase_of (code_in m.cells 39);
  account = said_at m.cells (Tag 1);
  transact_time = said_at m.cells (Tag 60);
  response_to = code_in m.cells 434;
  cxl_reason = option_map (reason_within 3 2) (number_if m.cells 102);
  text = telling (said_at m.cells (Tag 58)) (reason_told 102 3 (number_if m.cells 102));
}

-- the report of a message, by its letter
abbrev pub report50 : Message → Option Report
report50 m =
    if m.letter == 56
    then option_map (λ exec. Executed (execution_of m exec)) (exec_of (code_in m.cells 150))
    else (if m.letter == 57 then Some (NotCanceled (cancel_reject_of m)) else None)

-- THE SENSE of a message of FIX 5.0 SP2, by its MsgType and its fields
unfoldable pub report_sense50 : List ℕ → List Field → Option Report
report_sense50 msg_type fields = result_ok (message50 msg_type fields None) >>= report50
