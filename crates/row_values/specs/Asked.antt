-- Standard: FIX 4.2, FIX 4.4 and FIX 5.0 SP2, New Order - Single (D), Order Cancel Request (F),
-- Order Cancel/Replace Request (G) and Order Status Request (H): their types, and what their fields
-- mean that mean one thing in each version.
use Rattle.std.specs.Prelude.{ℕ, List, [], Bool, Option, Some, None, map, unwrap_or, codes, ◌==◌}
use Rattle.std.specs.Prelude.{if◌then◌else◌}
use Rattle.std.specs.Option.{option_map}
use Rattle.std.specs.Str.{bytes_eq}
use Rattle.message_tables.specs.Tables.{Place, Tag, Said, Cell, Message, ◌>>=◌, code_of, flag_of}
use Rattle.message_tables.specs.Tables.{lines_of, said_at}
use Rattle.order_meaning.specs.declared.Amount.{Amount}
use Rattle.order_meaning.specs.Request.{Request, RequestKind, New, Cancel, Replace, Status}
use Rattle.order_meaning.specs.Request.{NeutralMaturity, OrderType}
use Rattle.row_values.specs.Amounts.{alloc_of, amount_of, session_of}

-- ---- the four types

abbrev pub letter_of : RequestKind → ℕ
letter_of New = 68
letter_of Cancel = 70
letter_of Replace = 71
letter_of Status = 72

-- of the first kind whose test holds
abbrev pub of_first : {A : Type 0} → (new cancel replace status : Bool) → (RequestKind → A)
    → Option A
of_first new cancel replace status of =
    if new then Some (of New) else (if cancel then Some (of Cancel) else
    (if replace then Some (of Replace) else (if status then Some (of Status) else None)))

-- of the kind that a letter is
abbrev pub of_letter : {A : Type 0} → ℕ → (RequestKind → A) → Option A
of_letter letter = of_first (letter == 68) (letter == 70) (letter == 71) (letter == 72)

-- of the kind that a MsgType is
abbrev pub of_type : {A : Type 0} → List ℕ → (RequestKind → A) → Option A
of_type msg_type = of_first (bytes_eq msg_type (codes "D")) (bytes_eq msg_type (codes "F"))
    (bytes_eq msg_type (codes "G")) (bytes_eq msg_type (codes "H"))

-- ---- what is asked for

-- what each version says in its own words
pub record RequestWords : Type 0 where
  pub client_id : Said
  pub exec_broker : Said
  pub clearing_firm : Said
  pub hand_inst : Option ℕ
  pub max_floor : Option Amount
  pub maturity : Option NeutralMaturity
  pub ord_type : Option OrderType
  pub time_in_force : Option ℕ
  pub capacity : Option ℕ

-- a request by what is said at each place, the lines of each group, and the version's own words
abbrev pub requested_by : RequestKind → (resend : Bool) → (Place → Said)
    → (ℕ → List (List Cell)) → RequestWords → Request
requested_by kind resend says lines own = record {
  kind = kind;
  resend = resend;
  cl_ord_id = unwrap_or (says (Tag 11)) [];
  orig_id = says (Tag 41);
  order_id = says (Tag 37);
  client_id = own.client_id;
  exec_broker = own.exec_broker;
  clearing_firm = own.clearing_firm;
  account = says (Tag 1);
  allocs = map alloc_of (lines 78);
  settl_type = says (Tag 63) >>= code_of;
  settl_date = says (Tag 64);
  hand_inst = own.hand_inst;
  exec_inst = says (Tag 18);
  min_qty = says (Tag 110) >>= amount_of;
  max_floor = own.max_floor;
  ex_destination = says (Tag 100);
  sessions = map session_of (lines 386);
  symbol = unwrap_or (says (Tag 55)) [];
  symbol_sfx = says (Tag 65);
  security_id = says (Tag 48);
  id_source = says (Tag 22) >>= code_of;
  security_type = says (Tag 167);
  maturity = own.maturity;
  security_exchange = says (Tag 207);
  side = unwrap_or (says (Tag 54) >>= code_of) 0;
  locate = option_map flag_of (says (Tag 114));
  transact_time = says (Tag 60);
  order_qty = says (Tag 38) >>= amount_of;
  ord_type = own.ord_type;
  price = says (Tag 44) >>= amount_of;
  stop_px = says (Tag 99) >>= amount_of;
  currency = says (Tag 15);
  time_in_force = own.time_in_force;
  effective_time = says (Tag 168);
  expire_date = says (Tag 432);
  expire_time = says (Tag 126);
  capacity = own.capacity;
  open_close = says (Tag 77) >>= code_of;
  text = says (Tag 58);
}

-- a request by a message and the version's own words
abbrev pub request_by : RequestKind → Message → RequestWords → Request
request_by kind m = requested_by kind m.resend (said_at m.cells) (λ count. lines_of count m.groups)
