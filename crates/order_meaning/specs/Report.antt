-- Own: what a report on an order says, apart from the version of FIX that spells it. The fields are
-- those of Execution Report and Order Cancel Reject that both FIX 4.2 and FIX 5.0 SP2 can say.
use Rattle.std.specs.Prelude.{ℕ, List, Bool, Some, None}
use Rattle.std.specs.declared.option.Option.{Option}
use Rattle.order_meaning.specs.declared.Amount.{Amount}
use Rattle.order_meaning.specs.Request.{OrderType, NeutralMaturity}

-- how far an order has come, by its OrdStatus; one that was replaced works on, and is new
pub data Phase : Type 0 where
  New : Phase
  Partial : Phase
  Filled : Phase
  DoneForDay : Phase
  Canceled : Phase
  PendingCancel : Phase
  Stopped : Phase
  Rejected : Phase
  Suspended : Phase
  PendingNew : Phase
  Calculated : Phase
  Expired : Phase
  AcceptedForBidding : Phase
  PendingReplace : Phase

-- what a report tells of: an execution, its correction or its bust, the state of the order as it
-- was asked for, or another event, by the byte of its ExecType
pub data Exec : Type 0 where
  Trade : Exec
  Correct : Exec
  Bust : Exec
  Status : Exec
  Other : (exec_type : ℕ) → Exec

-- one broker on the other side of a trade
pub record NeutralContra : Type 0 where
  pub broker : List ℕ
  pub trader : Option (List ℕ)
  pub qty : Option Amount
  pub time : Option (List ℕ)

-- An execution report. Ids and texts are their bytes, a code is its byte, and a day or a moment is
-- its text. A status has no ExecID. Reasons lie in the range of FIX 4.2, and a reason past it
-- stands at the end of the text.
pub record ExecutionReport : Type 0 where
  pub resend : Bool
  pub order_id : List ℕ
  pub secondary_id : Option (List ℕ)
  pub cl_ord_id : Option (List ℕ)
  pub orig_id : Option (List ℕ)
  pub client_id : Option (List ℕ)
  pub exec_broker : Option (List ℕ)
  pub clearing_firm : Option (List ℕ)
  pub contras : List NeutralContra
  pub exec_id : Option (List ℕ)
  pub ref_id : Option (List ℕ)
  pub exec : Exec
  pub ord_status : Phase
  pub rej_reason : Option ℕ
  pub restate_reason : Option ℕ
  pub account : Option (List ℕ)
  pub settl_type : Option ℕ
  pub settl_date : Option (List ℕ)
  pub symbol : List ℕ
  pub symbol_sfx : Option (List ℕ)
  pub security_id : Option (List ℕ)
  pub id_source : Option ℕ
  pub security_type : Option (List ℕ)
  pub maturity : Option NeutralMaturity
  pub security_exchange : Option (List ℕ)
  pub side : ℕ
  pub order_qty : Option Amount
  pub ord_type : Option OrderType
  pub price : Option Amount
  pub stop_px : Option Amount
  pub currency : Option (List ℕ)
  pub time_in_force : Option ℕ
  pub expire_date : Option (List ℕ)
  pub expire_time : Option (List ℕ)
  pub capacity : Option ℕ
  pub last_qty : Option Amount
  pub last_px : Option Amount
  pub last_mkt : Option (List ℕ)
  pub leaves : Amount
  pub cum : Amount
  pub avg : Amount
  pub trade_date : Option (List ℕ)
  pub transact_time : Option (List ℕ)
  pub min_qty : Option Amount
  pub max_floor : Option Amount
  pub text : Option (List ℕ)

-- a report that an order was neither canceled nor replaced
pub record CancelReject : Type 0 where
  pub resend : Bool
  pub order_id : List ℕ
  pub secondary_id : Option (List ℕ)
  pub cl_ord_id : List ℕ
  pub orig_id : Option (List ℕ)
  pub ord_status : Phase
  pub account : Option (List ℕ)
  pub transact_time : Option (List ℕ)
  pub response_to : ℕ
  pub cxl_reason : Option ℕ
  pub text : Option (List ℕ)

pub data Report : Type 0 where
  Executed : (report : ExecutionReport) → Report
  NotCanceled : (reject : CancelReject) → Report

-- what is said, or else what is known besides
abbrev pub or_known : Option (List ℕ) → Option (List ℕ) → Option (List ℕ)
or_known (Some said) known = Some said
or_known None known = known

-- A report, where an order's original id is known besides: a cancel reject that does not say which
-- order was to be canceled or replaced, OrigClOrdID(41), then says this id.
abbrev pub filled : Option (List ℕ) → Report → Report
filled original (Executed report) = Executed report
filled original (NotCanceled reject) =
    NotCanceled (record reject { orig_id = or_known reject.orig_id original })
