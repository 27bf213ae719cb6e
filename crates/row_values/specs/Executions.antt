-- Standard: FIX 4.2, FIX 4.4 and FIX 5.0 SP2, Execution Report (8): what its fields mean that mean
-- one thing in each version.
use Rattle.std.specs.Prelude.{ℕ, List, [], Bool, Option, map, pos, unwrap_or}
use Rattle.message_tables.specs.Tables.{Place, Tag, Said, Cell, Message, ◌>>=◌, code_of, said_at}
use Rattle.message_tables.specs.Tables.{lines_of}
use Rattle.order_meaning.specs.declared.Amount.{Amount}
use Rattle.order_meaning.specs.Report.{Exec, ExecutionReport, Phase}
use Rattle.order_meaning.specs.Request.{NeutralMaturity, OrderType}
use Rattle.row_values.specs.Amounts.{amount_of, contra_of}

-- what each version says in its own words
pub record OwnWords : Type 0 where
  pub client_id : Said
  pub exec_broker : Said
  pub clearing_firm : Said
  pub exec_id : Said
  pub exec : Exec
  pub ord_status : Phase
  pub rej_reason : Option ℕ
  pub restate_reason : Option ℕ
  pub maturity : Option NeutralMaturity
  pub ord_type : Option OrderType
  pub time_in_force : Option ℕ
  pub capacity : Option ℕ
  pub max_floor : Option Amount
  pub text : Said

abbrev pub amount_or_0 : Said → Amount
amount_or_0 text = unwrap_or (text >>= amount_of) (record { units = pos 0 })

-- an execution by what is said at each place, the lines of each group, and the version's own words
abbrev pub executed_by : (resend : Bool) → (Place → Said) → (ℕ → List (List Cell)) → OwnWords
    → ExecutionReport
executed_by resend says lines own = record {
  resend = resend;
  order_id = unwrap_or (says (Tag 37)) [];
  secondary_id = says (Tag 198);
  cl_ord_id = says (Tag 11);
  orig_id = says (Tag 41);
  client_id = own.client_id;
  exec_broker = own.exec_broker;
  clearing_firm = own.clearing_firm;
  contras = map contra_of (lines 382);
  exec_id = own.exec_id;
  ref_id = says (Tag 19);
  exec = own.exec;
  ord_status = own.ord_status;
  rej_reason = own.rej_reason;
  restate_reason = own.restate_reason;
  account = says (Tag 1);
  settl_type = says (Tag 63) >>= code_of;
  settl_date = says (Tag 64);
  symbol = unwrap_or (says (Tag 55)) [];
  symbol_sfx = says (Tag 65);
  security_id = says (Tag 48);
  id_source = says (Tag 22) >>= code_of;
  security_type = says (Tag 167);
  maturity = own.maturity;
  security_exchange = says (Tag 207);
  side = unwrap_or (says (Tag 54) >>= code_of) 0;
  order_qty = says (Tag 38) >>= amount_of;
  ord_type = own.ord_type;
  price = says (Tag 44) >>= amount_of;
  stop_px = says (Tag 99) >>= amount_of;
  currency = says (Tag 15);
  time_in_force = own.time_in_force;
  expire_date = says (Tag 432);
  expire_time = says (Tag 126);
  capacity = own.capacity;
  last_qty = says (Tag 32) >>= amount_of;
  last_px = says (Tag 31) >>= amount_of;
  last_mkt = says (Tag 30);
  leaves = amount_or_0 (says (Tag 151));
  cum = amount_or_0 (says (Tag 14));
  avg = amount_or_0 (says (Tag 6));
  trade_date = says (Tag 75);
  transact_time = says (Tag 60);
  min_qty = says (Tag 110) >>= amount_of;
  max_floor = own.max_floor;
  text = own.text;
}

-- an execution by a message and the version's own words
abbrev pub execution_by : Message → OwnWords → ExecutionReport
execution_by m = executed_by m.resend (said_at m.cells) (λ count. lines_of count m.groups)
