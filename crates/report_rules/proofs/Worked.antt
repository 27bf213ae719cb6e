-- Worked reports of both versions: what they mean, how a book changes by them, and what goes down.
use Rattle.std.specs.Prelude.{◌≡◌, ℕ, ◌*◌, pos, Bool, true, false, List, [], ◌∷◌, ◌++◌, codes, refl}
use Rattle.std.specs.Prelude.{Option, Some, None, Result, Ok, Err, map}
use Rattle.std.specs.Prelude.{option_and_then}
use Rattle.std.specs.Fmt.{digits}
use Rattle.typed_fields.specs.Digits.{are_digits, number_of, has_pattern, zero_padded}
use Rattle.typed_fields.specs.Digits.{without_leading_zeros, without_trailing_zeros}
use Rattle.value_kinds.specs.ValueKind.{spelling, units_of_text}
use Rattle.field_groups.specs.Field.{Field}
use Rattle.field_groups.specs.HeadValues.{number_in}
use Rattle.message_tables.specs.Tables.{Message, Role, Tag, first_of}
use Rattle.message_tables.specs.FirstFault.{first_fault, message_of}
use Rattle.message_tables.specs.Content.{content}
use Rattle.order_meaning.specs.declared.Amount.{Amount}
use Rattle.order_meaning.specs.declared.fault.Fault.{Fault}
use Rattle.order_meaning.specs.Request.{Limit, LimitOnClose}
use Rattle.order_meaning.specs.Report.{Phase, New, Partial, PendingCancel, PendingNew, Rejected}
use Rattle.order_meaning.specs.Report.{PendingReplace, Exec, Trade, Correct, Bust, Status, Other}
use Rattle.order_meaning.specs.Report.{ExecutionReport, Report, Executed, NotCanceled}
use Rattle.order_meaning.specs.Book.{Book, Order, Execution, reported, changed, at_execution}
use Rattle.order_meaning.specs.Book.{in_phase}
use Rattle.row_values.specs.Kinds.{judge}
use Rattle.row_values.specs.Phases.{phase_of}
use Rattle.reports_fix42.specs.Message.{message42, execution_report_table}
use Rattle.reports_fix42.specs.Sense.{report_sense42, exec_of as exec_of42}
use Rattle.reports_fix42.specs.Step.{step42, change_of as change_of42}
use Rattle.reports_fix50.specs.Message.{message50}
use Rattle.reports_fix50.specs.Sense.{report_sense50, exec_of as exec_of50}
use Rattle.reports_fix50.specs.Step.{step50, change_of as change_of50}
use Rattle.report_rules.specs.Rules.{down_message}

-- ---- the fields of reports

-- an execution report of the order O1, sent as A1: the fields in its midst, LeavesQty, CumQty and
-- AvgPx, and the fields at its end
abbrev told : List Field → (leaves cum avg : List ℕ) → List Field → List Field
told between leaves cum avg last =
    (35, codes "8") ∷ (34, codes "2") ∷ (37, codes "O1") ∷ (11, codes "A1") ∷ between ++
    (55, codes "IBM") ∷ (54, codes "1") ∷ (151, leaves) ∷ (14, cum) ∷ (6, avg) ∷ last

-- ExecID, ExecTransType of FIX 4.2, ExecType and OrdStatus
abbrev exec42 : (id trans_type exec_type status : List ℕ) → List Field
exec42 id trans_type exec_type status =
    (17, id) ∷ (20, trans_type) ∷ (150, exec_type) ∷ (39, status) ∷ []

abbrev exec50 : (id exec_type status : List ℕ) → List Field
exec50 id exec_type status = (17, id) ∷ (150, exec_type) ∷ (39, status) ∷ []

-- LastQty at LastPx
abbrev last : (qty price : List ℕ) → List Field
last qty price = (32, qty) ∷ (31, price) ∷ []

-- a cancel reject of A2, with these fields
abbrev reject : (status : List ℕ) → List Field → List Field
reject status more = (37, codes "O1") ∷ (11, codes "A2") ∷ (39, status) ∷ (434, codes "1") ∷ more

-- in FIX 4.2, that an order is taken; an execution of 40, its correction to 30, and its bust
abbrev taken42 : List Field
taken42 = exec42 (codes "E1") (codes "0") (codes "0") (codes "0")

abbrev traded42 : List Field
traded42 = exec42 (codes "E2") (codes "0") (codes "1") (codes "1")

abbrev corrected42 : List Field
corrected42 = (19, codes "E2") ∷ exec42 (codes "E3") (codes "2") (codes "1") (codes "1")

abbrev busted42 : List Field
busted42 = (19, codes "E2") ∷ exec42 (codes "E4") (codes "1") (codes "0") (codes "0")

-- ---- what reports mean

abbrev whole : ℕ → Amount
whole n = record { units = pos (100_000_000 * n) }

-- the price 10.5
abbrev price : Amount
price = record { units = pos 1_050_000_000 }

-- 40 at 10.5, of an order of which 60 are left
abbrev trade : ExecutionReport
trade = record {
  resend = false;
  order_id = codes "O1";
  secondary_id = None;
  cl_ord_id = Some (codes "A1");
  orig_id = None;
  client_id = None;
  exec_broker = Some (codes "B1");
  clearing_firm = None;
  contras = record {
    broker = codes "B";
    trader = None;
    qty = Some (whole 40);
    time = Some (codes "20240102-10:00:00");
  } ∷ [];
  exec_id = Some (codes "E2");
  ref_id = None;
  exec = Trade;
  ord_status = Partial;
  rej_reason = None;
  restate_reason = None;
  account = None;
  settl_type = None;
  settl_date = None;
  symbol = codes "IBM";
  symbol_sfx = None;
  security_id = None;
  id_source = None;
  security_type = Some (codes "FUT");
  maturity = Some (record { month = codes "202406"; day = Some 3 });
  security_exchange = None;
  side = 49;
  order_qty = Some (whole 100);
  ord_type = Some LimitOnClose;
  price = Some (whole 11);
  stop_px = None;
  currency = None;
  time_in_force = None;
  expire_date = None;
  expire_time = None;
  capacity = Some 65;
  last_qty = Some (whole 40);
  last_px = Some price;
  last_mkt = None;
  leaves = whole 60;
  cum = whole 40;
  avg = price;
  trade_date = Some (codes "20240102");
  transact_time = None;
  min_qty = None;
  max_floor = Some (whole 5);
  text = Some (codes "part");
}

-- a cancel reject of A2, which is sent again
abbrev not_canceled : (orig_id : Option (List ℕ)) → Phase → ℕ → (text : Option (List ℕ)) → Report
not_canceled orig_id phase reason text = NotCanceled (record {
  resend = true;
  order_id = codes "O1";
  secondary_id = None;
  cl_ord_id = codes "A2";
  orig_id = orig_id;
  ord_status = phase;
  account = None;
  transact_time = None;
  response_to = 49;
  cxl_reason = Some reason;
  text = text;
})

abbrev of_report : {A : Type 0} → (ExecutionReport → A) → Option Report → Option A
of_report field None = None
of_report field (Some (Executed r)) = Some (field r)
of_report field (Some (NotCanceled r)) = None

-- a row of a report of FIX 4.2, and of one of FIX 5.0 SP2, also of an order that was rejected
abbrev meant42 : {A : Type 0} → (ExecutionReport → A) → List Field → List Field → Option A
meant42 field between more = of_report field (report_sense42 (codes "8")
    (told between (codes "60") (codes "40") (codes "10.5") more))

abbrev meant50 : {A : Type 0} → (ExecutionReport → A) → List Field → List Field → Option A
meant50 field between more = of_report field (report_sense50 (codes "8")
    (told between (codes "100") (codes "0") (codes "0") more))

abbrev refused50 : {A : Type 0} → (ExecutionReport → A) → List Field → Option A
refused50 field more = meant50 field (exec50 (codes "E5") (codes "8") (codes "8")) more

-- of FIX 4.2
record Meanings42 : Type 0 where
  -- each field where it belongs; beside an order on close 59=0 says nothing
  pub whole_report : report_sense42 (codes "8") (told
      ((76, codes "B1") ∷ (382, codes "1") ∷ (375, codes "B") ∷ (437, codes "40.0") ∷
      (438, codes "20240102-10:00:00") ∷ traded42) (codes "60") (codes "40") (codes "10.5")
      ((38, codes "100") ∷ (167, codes "FUT") ∷ (205, codes "3") ∷ (200, codes "202406") ∷
      (40, codes "B") ∷ (59, codes "0") ∷ (44, codes "11.00") ∷ (47, codes "A") ∷
      last (codes "40") (codes "010.50") ++ (75, codes "20240102") ∷ (111, codes "5") ∷
      (58, codes "part") ∷ []))
      ≡ Some (Executed trade)
  -- what is told of, by ExecTransType and ExecType
  pub taken_is : meant42 (λ r. r.exec) taken42 [] ≡ Some (Other 48)
  pub trade_is : meant42 (λ r. r.exec) traded42 (last (codes "40") (codes "10.5")) ≡ Some Trade
  pub correction_is : meant42 (λ r. r.exec) corrected42 (last (codes "30") (codes "10.5"))
      ≡ Some Correct
  pub bust_is : meant42 (λ r. r.exec) busted42 [] ≡ Some Bust
  pub restated_is : meant42 (λ r. r.exec)
      (exec42 (codes "E5") (codes "0") (codes "D") (codes "1")) []
      ≡ Some (Other 68)
  -- a status, which has no ExecID
  pub status_is : meant42 {A = Exec × Option (List ℕ)} (λ r. (r.exec, r.exec_id))
      (exec42 (codes "0") (codes "3") (codes "1") (codes "1")) []
      ≡ Some (Status, None)
  -- an order that was replaced is new
  pub replaced : meant42 (λ r. r.ord_status)
      (exec42 (codes "E5") (codes "0") (codes "5") (codes "5")) []
      ≡ Some New
  pub pending : meant42 (λ r. r.ord_status)
      (exec42 (codes "E5") (codes "0") (codes "E") (codes "E")) []
      ≡ Some PendingReplace
  pub reason : meant42 (λ r. r.rej_reason)
      (exec42 (codes "E5") (codes "0") (codes "8") (codes "8")) ((103, codes "0099") ∷ [])
      ≡ Some (Some 99)
  pub resend : meant42 (λ r. r.resend) taken42 ((97, codes "Y") ∷ []) ≡ Some true
  pub no_sense : meant42 (λ r. r.symbol) taken42 ((9999, codes "x") ∷ []) ≡ None
  pub cancel_reject : report_sense42 (codes "9")
      (reject (codes "E") ((41, codes "A1") ∷ (102, codes "0") ∷ (97, codes "Y") ∷ []))
      ≡ Some (not_canceled (Some (codes "A1")) PendingReplace 0 None)
  -- a refusal is no report
  pub refusal : report_sense42 (codes "3") ((45, codes "7") ∷ []) ≡ None

meanings42 : Meanings42
unfolding report_sense42 phase_of exec_of42 units_of_text message42 message_of first_fault first_of
    number_in judge spelling are_digits number_of has_pattern without_leading_zeros
    without_trailing_zeros digits zero_padded
meanings42 = search

-- of FIX 5.0 SP2
record Meanings50 : Type 0 where
  -- each field where it belongs
  pub whole_report : report_sense50 (codes "8") (
      told ((198, codes "S1") ∷ (453, codes "2") ∷ (448, codes "B1") ∷ (452, codes "1") ∷
      (448, codes "FUND") ∷ (447, codes "D") ∷ (452, codes "3") ∷ (382, codes "1") ∷
      (375, codes "B") ∷ (437, codes "40.0") ∷ (438, codes "20240102-10:00:00") ∷
      exec50 (codes "E2") (codes "F") (codes "1")) (codes "60") (codes "40") (codes "10.50")
      ((38, codes "100") ∷ (167, codes "FUT") ∷ (200, codes "x") ∷ (541, codes "20240603") ∷
      (40, codes "2") ∷ (59, codes "7") ∷ (44, codes "11.00") ∷ (528, codes "A") ∷
      last (codes "40") (codes "010.50") ++ (75, codes "20240102") ∷ (1138, codes "5") ∷
      (58, codes "part") ∷ []))
      ≡ Some (Executed (record trade {
        secondary_id = Some (codes "S1");
        client_id = Some (codes "FUND");
      }))
  -- what is told of, by ExecType; a trade that is held or released to clearing has no sense
  pub correction_is : meant50 (λ r. r.exec)
      ((19, codes "E2") ∷ exec50 (codes "E3") (codes "G") (codes "1"))
      (last (codes "30") (codes "10.5"))
      ≡ Some Correct
  pub bust_is : meant50 (λ r. r.exec)
      ((19, codes "E3") ∷ exec50 (codes "E5") (codes "H") (codes "0")) []
      ≡ Some Bust
  pub others : map (λ type. meant50 (λ r. r.exec) (exec50 (codes "E5") type (codes "0")) [])
      (codes "0" ∷ codes "D" ∷ codes "J" ∷ codes "K" ∷ [])
      ≡ Some (Other 48) ∷ Some (Other 68) ∷ None ∷ None ∷ []
  -- a status, which has no ExecID
  pub status : map (λ type. meant50 {A = Exec × Option (List ℕ)} (λ r. (r.exec, r.exec_id))
      (exec50 (codes "E9") type (codes "0")) []) (codes "I" ∷ codes "L" ∷ [])
      ≡ Some (Status, None) ∷ Some (Status, None) ∷ []
  -- an order that was replaced is new
  pub replaced : meant50 (λ r. r.ord_status) (exec50 (codes "E5") (codes "5") (codes "5")) []
      ≡ Some New
  pub pending : meant50 (λ r. r.ord_status) (exec50 (codes "E5") (codes "6") (codes "6")) []
      ≡ Some PendingCancel
  -- reasons up to those of FIX 4.2, and past them, with and without a text; OrdRejReason before
  -- ExecRestatementReason
  pub reason : refused50 (λ r. r.rej_reason) ((103, codes "08") ∷ []) ≡ Some (Some 8)
  pub reason_text : refused50 (λ r. r.text) ((103, codes "8") ∷ (58, codes "no") ∷ [])
      ≡ Some (Some (codes "no"))
  pub no_text : refused50 (λ r. r.text) ((103, codes "8") ∷ (378, codes "5") ∷ []) ≡ Some None
  pub past : refused50 (λ r. r.rej_reason) ((103, codes "9") ∷ []) ≡ Some (Some 0)
  pub past_alone : refused50 (λ r. r.text) ((103, codes "0099") ∷ [])
      ≡ Some (Some (codes "[103=99]"))
  pub past_text : refused50 (λ r. r.text) ((103, codes "99") ∷ (58, codes "no") ∷ [])
      ≡ Some (Some (codes "no [103=99]"))
  pub restated : refused50 (λ r. r.restate_reason) ((378, codes "6") ∷ []) ≡ Some (Some 4)
  pub both : refused50 (λ r. r.text) ((378, codes "6") ∷ (58, codes "no") ∷ (103, codes "9") ∷ [])
      ≡ Some (Some (codes "no [103=9] [378=6]"))
  pub both_alone : refused50 (λ r. r.text) ((378, codes "6") ∷ (103, codes "9") ∷ [])
      ≡ Some (Some (codes "[103=9] [378=6]"))
  -- order types
  pub limit : refused50 (λ r. r.ord_type) ((40, codes "2") ∷ (59, codes "0") ∷ [])
      ≡ Some (Some Limit)
  pub resend : refused50 (λ r. r.resend) ((97, codes "Y") ∷ []) ≡ Some true
  pub no_sense : refused50 (λ r. r.symbol) ((64, codes "x") ∷ []) ≡ None
  -- a cancel reject, of which no OrigClOrdID is asked
  pub cancel_reject : report_sense50 (codes "9")
      (reject (codes "6") ((102, codes "4") ∷ (58, codes "late") ∷ (97, codes "Y") ∷ []))
      ≡ Some (not_canceled None PendingCancel 2 (Some (codes "late [102=4]")))
  -- a refusal is no report
  pub refusal : report_sense50 (codes "3") ((45, codes "7") ∷ []) ≡ None

meanings50 : Meanings50
unfolding report_sense50 phase_of exec_of50 units_of_text message50 message_of first_fault first_of
    judge number_in spelling are_digits number_of has_pattern without_leading_zeros
    without_trailing_zeros digits zero_padded
meanings50 = search

-- ---- how a book changes

-- the book after a message, which has to be at no fault
abbrev after : (Book → Message → Book) → Result Message Fault → Book → Option Book
after step (Ok m) book = Some (step book m)
after step (Err fault) book = None

abbrev after42 : List Field → (leaves cum : List ℕ) → List Field → Book → Option Book
after42 between leaves cum more =
    after step42 (message42 (codes "8") (told between leaves cum (codes "10.5") more) None)

abbrev after50 : List Field → (leaves cum avg : List ℕ) → List Field → Book → Option Book
after50 between leaves cum avg more =
    after step50 (message50 (codes "8") (told between leaves cum avg more) None)

-- the order O1: its phase, what is left, done and at which average, the ExecIDs seen, and its
-- executions
abbrev order : Phase → (leaves cum : ℕ) → Amount → List (List ℕ) → List Execution → Order
order phase leaves cum avg seen execs = record {
  order_id = codes "O1";
  ids = codes "A1" ∷ [];
  current = Some (codes "A1");
  phase = phase;
  qty = None;
  price = None;
  cum = whole cum;
  leaves = whole leaves;
  avg = avg;
  seen = seen;
  execs = execs;
}

abbrev execution : List (List ℕ) → ℕ → Amount → Bool → Execution
execution ids qty price live = record { ids = ids; qty = whole qty; price = price; live = live }

-- after the trade, in a phase
abbrev after_trade : Phase → Book
after_trade phase =
    order phase 60 40 price (codes "E2" ∷ []) (execution (codes "E2" ∷ []) 40 price true ∷ []) ∷ []

abbrev after_correction : Book
after_correction =
    order Partial 70 30 price (codes "E2" ∷ codes "E3" ∷ [])
    (execution (codes "E2" ∷ codes "E3" ∷ []) 30 (whole 11) true ∷ []) ∷ []

-- of FIX 4.2
record Books42 : Type 0 where
  pub trade : after42 traded42 (codes "60") (codes "40") (last (codes "40") (codes "10.5")) []
      ≡ Some (after_trade Partial)
  pub correction : after42 corrected42 (codes "70") (codes "30") (last (codes "30") (codes "11"))
      (after_trade Partial)
      ≡ Some after_correction
  -- a bust counts, whichever of its ids names the execution
  pub bust : after42 busted42 (codes "100") (codes "0") [] after_correction
      ≡ Some (order New 100 0 price (codes "E2" ∷ codes "E3" ∷ codes "E4" ∷ [])
      (execution (codes "E2" ∷ codes "E3" ∷ []) 30 (whole 11) false ∷ []) ∷ [])
  -- the correction is by ExecTransType, and not by ExecType
  pub by_trans_type : after42
      ((19, codes "E2") ∷ exec42 (codes "E3") (codes "2") (codes "0") (codes "1"))
      (codes "70") (codes "30") (last (codes "30") (codes "11")) (after_trade Partial)
      ≡ Some after_correction
  pub status : after42 (exec42 (codes "0") (codes "3") (codes "1") (codes "A"))
      (codes "60") (codes "40") [] (after_trade Partial)
      ≡ Some (after_trade PendingNew)
  pub again : after42 ((97, codes "Y") ∷ traded42) (codes "60") (codes "40")
      (last (codes "40") (codes "10.5")) (after_trade Partial)
      ≡ Some (after_trade Partial)
  pub reject : after step42
      (message42 (codes "9") (reject (codes "E") ((41, codes "A1") ∷ [])) None)
      (after_trade Partial)
      ≡ Some (after_trade PendingReplace)
  pub refusal : after step42 (message42 (codes "3") ((45, codes "7") ∷ []) None)
      (after_trade Partial)
      ≡ Some (after_trade Partial)

books42 : Books42
unfolding step42 change_of42 reported changed at_execution in_phase phase_of units_of_text message42
    message_of first_fault first_of number_in judge spelling are_digits number_of has_pattern
    without_leading_zeros without_trailing_zeros digits zero_padded
books42 = search

-- in FIX 5.0 SP2, the trade with these fields, a correction of an id to so many, of which so many
-- are left, and the bust of the first correction
abbrev trade_of : List Field → Book → Option Book
trade_of more =
    after50 (more ++ exec50 (codes "E2") (codes "F") (codes "1")) (codes "60") (codes "40")
    (codes "10.5") (last (codes "40") (codes "10.5"))

abbrev correction : (id qty leaves : List ℕ) → Book → Option Book
correction id qty leaves =
    after50 ((19, codes "E2") ∷ exec50 id (codes "G") (codes "1")) leaves qty (codes "10.5")
    (last qty (codes "10.5"))

abbrev bust : Book → Option Book
bust = after50 ((19, codes "E3") ∷ exec50 (codes "E5") (codes "H") (codes "0")) (codes "100")
    (codes "0") (codes "0") []

record Books50 : Type 0 where
  pub new_order : after50 (exec50 (codes "E1") (codes "0") (codes "0")) (codes "100") (codes "0")
      (codes "0") [] []
      ≡ Some (order New 100 0 (whole 0) (codes "E1" ∷ []) [] ∷ [])
  pub trade_is : trade_of [] [] ≡ Some (after_trade Partial)
  -- two corrections of a trade and its bust, each by an id that names it: one execution
  pub corrections : option_and_then bust
      (option_and_then (correction (codes "E4") (codes "35") (codes "65"))
      (correction (codes "E3") (codes "30") (codes "70") (after_trade Partial)))
      ≡ Some (order New 100 0 (whole 0)
      (codes "E2" ∷ codes "E3" ∷ codes "E4" ∷ codes "E5" ∷ [])
      (execution (codes "E2" ∷ codes "E3" ∷ codes "E4" ∷ []) 35 price false ∷ []) ∷ [])
  -- of no execution: the note alone
  pub bust_of_none : bust [] ≡ Some (order New 100 0 (whole 0) (codes "E5" ∷ []) [] ∷ [])
  -- a status has no ExecID; a trade that is held counts for nothing
  pub status : after50 (exec50 (codes "E9") (codes "L") (codes "8")) (codes "60") (codes "40")
      (codes "10.5") [] (after_trade Partial)
      ≡ Some (after_trade Rejected)
  pub held : after50 (exec50 (codes "E9") (codes "J") (codes "2")) (codes "0") (codes "100")
      (codes "1") [] (after_trade Partial)
      ≡ Some (after_trade Partial)
  pub again : trade_of ((97, codes "Y") ∷ []) (after_trade Partial) ≡ Some (after_trade Partial)
  pub twice : trade_of [] (after_trade Partial)
      ≡ Some (order Partial 60 40 price (codes "E2" ∷ codes "E2" ∷ [])
      (execution (codes "E2" ∷ []) 40 price true ∷ execution (codes "E2" ∷ []) 40 price true ∷ [])
      ∷ [])
  -- a cancel reject sets the phase alone, and that of an order that stands in the book
  pub reject : after step50 (message50 (codes "9") (reject (codes "6") []) None)
      (after_trade Partial)
      ≡ Some (after_trade PendingCancel)
  pub reject_of_none : after step50 (message50 (codes "9")
      ((37, codes "O2") ∷ (11, codes "A2") ∷ (39, codes "6") ∷ (434, codes "1") ∷ []) None)
      (after_trade Partial)
      ≡ Some (after_trade Partial)
  pub refusal : after step50 (message50 (codes "3") ((45, codes "7") ∷ []) None)
      (after_trade Partial)
      ≡ Some (after_trade Partial)

books50 : Books50
unfolding step50 change_of50 reported changed at_execution in_phase phase_of units_of_text message50
    message_of first_fault first_of judge number_in spelling are_digits number_of has_pattern
    without_leading_zeros without_trailing_zeros digits zero_padded
books50 = search

-- ---- what is written

abbrev written_again : Result Message Fault → Result Message Fault
written_again (Ok m) = message42 (codes "8") (content execution_report_table m) None
written_again (Err fault) = Err fault

abbrev with_contras : Result Message Fault
with_contras =
    message42 (codes "8") (told
    ((382, codes "02") ∷ (375, codes "B") ∷ (437, codes "40.0") ∷ (375, codes "C") ∷ traded42)
    (codes "60") (codes "40") (codes "10.5")
    ((103, codes "0099") ∷ (205, codes "3") ∷ (200, codes "202406") ∷
    last (codes "40") (codes "010.50"))) None

-- the content of a message with contra brokers is the same message
again : written_again with_contras ≡ with_contras
unfolding message42 message_of first_fault first_of number_in judge spelling are_digits number_of
    has_pattern without_leading_zeros without_trailing_zeros digits zero_padded
again = refl

-- ---- what goes down

-- a trade that fills a limit order at the close, of a future, with a client, and a reason that FIX
-- 4.2 lacks
filled : Message
filled = record {
  letter = 56;
  resend = false;
  cells =
      (Tag 37, Some (codes "V7")) ∷ (Tag 41, None) ∷ (Role 3, Some (codes "ALPHA")) ∷
      (Role 1, None) ∷ (Tag 17, Some (codes "E9")) ∷ (Tag 150, Some (codes "F")) ∷
      (Tag 39, Some (codes "2")) ∷ (Tag 103, Some (codes "99")) ∷
      (Tag 200, Some (codes "202612")) ∷ (Tag 541, Some (codes "20261215")) ∷
      (Tag 40, Some (codes "2")) ∷ (Tag 59, Some (codes "7")) ∷ (Tag 528, Some (codes "A")) ∷
      (Tag 151, Some (codes "0")) ∷ (Tag 1138, None) ∷ (Tag 58, Some (codes "late")) ∷ [];
  groups = (453, []) ∷ (382, ((Tag 375, Some (codes "B")) ∷ []) ∷ []) ∷ [];
}

filled_down : down_message None filled ≡ Ok (record {
  letter = 56;
  resend = false;
  cells =
      (Tag 37, Some (codes "V7")) ∷ (Tag 41, None) ∷ (Tag 109, Some (codes "ALPHA")) ∷
      (Tag 76, None) ∷ (Tag 17, Some (codes "E9")) ∷ (Tag 20, Some (codes "0")) ∷
      (Tag 150, Some (codes "2")) ∷ (Tag 39, Some (codes "2")) ∷ (Tag 103, Some (codes "0")) ∷
      (Tag 200, Some (codes "202612")) ∷ (Tag 205, Some (codes "15")) ∷
      (Tag 40, Some (codes "B")) ∷ (Tag 59, None) ∷ (Tag 47, Some (codes "A")) ∷
      (Tag 151, Some (codes "0")) ∷ (Tag 111, None) ∷ (Tag 58, Some (codes "late [103=99]")) ∷ [];
  groups = (382, ((Tag 375, Some (codes "B")) ∷ []) ∷ []) ∷ [];
})
unfolding filled first_of digits number_in number_of are_digits
filled_down = refl

-- a trade in a clearing hold
held : Message
held = record {
  letter = 56;
  resend = false;
  cells = (Tag 17, Some (codes "E9")) ∷ (Tag 150, Some (codes "J")) ∷ (Tag 39, Some (codes "0")) ∷ [];
  groups = [];
}

held_lacks : down_message None held ≡ Err 150
unfolding held first_of
held_lacks = refl

-- a cancel reject that does not name its order
refused : Message
refused = record {
  letter = 57;
  resend = false;
  cells = (Tag 37, Some (codes "V7")) ∷ (Tag 41, None) ∷ (Tag 39, Some (codes "0")) ∷
      (Tag 434, Some (codes "1")) ∷ (Tag 102, Some (codes "6")) ∷ (Tag 58, None) ∷ [];
  groups = [];
}

refused_down : down_message (Some (codes "C1")) refused ≡ Ok (record {
  letter = 57;
  resend = false;
  cells = (Tag 37, Some (codes "V7")) ∷ (Tag 41, Some (codes "C1")) ∷ (Tag 39, Some (codes "0")) ∷
      (Tag 434, Some (codes "1")) ∷ (Tag 102, Some (codes "2")) ∷
      (Tag 58, Some (codes "[102=6]")) ∷ [];
  groups = [];
})
unfolding refused first_of digits number_in number_of are_digits
refused_down = refl

refused_lacks : down_message None refused ≡ Err 41
unfolding refused first_of
refused_lacks = refl

-- that they are checked
pub worked : Unit {0}
worked = tt
