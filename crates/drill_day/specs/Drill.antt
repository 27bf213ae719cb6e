-- Own: the day of a drill; docs/DEFINITIONS.md, "The drill".
use Rattle.std.specs.Prelude.{ℕ, zero, suc, if◌then◌else◌, ◌+◌, ◌*◌, ◌/◌, ◌%◌, ◌==◌, Bool, true}
use Rattle.std.specs.Prelude.{false, Some, None, codes}
use Rattle.std.specs.Prelude.{List, [], ◌∷◌, ◌++◌, length}
use Rattle.std.specs.declared.option.Option.{Option}
use Rattle.std.specs.List.{count_by}
use Rattle.std.specs.Fmt.{decimal}
use Rattle.frame_grammar.specs.declared.frame.TheConstants.{SOH}
use Rattle.order_meaning.specs.declared.Side.{Side}
use Rattle.order_meaning.specs.declared.Side.TheVariants.{Client, Venue}
use Rattle.order_meaning.specs.declared.names.Names.{Names}
use Rattle.capture_text.specs.declared.capture.Event.{Event}
use Rattle.capture_text.specs.declared.capture.Event.TheVariants as event
use Rattle.capture_text.specs.declared.capture.Capture.{Capture}
use Rattle.drill_day.specs.declared.order.OrderKind.{OrderKind}
use Rattle.drill_day.specs.declared.order.OrderKind.TheVariants.{Filled, Busted, Corrected}
use Rattle.drill_day.specs.declared.order.OrderKind.TheVariants.{Rejected}
use Rattle.drill_day.specs.declared.order.Drawn.{Drawn}
use Rattle.drill_day.specs.declared.kinds.Kinds.{Kinds}
use Rattle.drill_day.specs.declared.report.ExecType.{ExecType}
use Rattle.drill_day.specs.declared.report.ExecType.TheVariants as exec
use Rattle.drill_day.specs.declared.report.OrdStatus.{OrdStatus}
use Rattle.drill_day.specs.declared.report.OrdStatus.TheVariants as status
use Rattle.drill_day.specs.declared.report.Report.{Report}
use Rattle.drill_day.specs.declared.body.MsgType.{MsgType}
use Rattle.drill_day.specs.declared.body.MsgType.TheVariants.{Logon, NewOrderSingle}
use Rattle.drill_day.specs.declared.body.MsgType.TheVariants.{ExecutionReport}
use Rattle.drill_day.specs.declared.day.Numbers.{Numbers}

-- ---- the orders, as they are drawn

-- A draw below k sets x to (75 x + 74) mod 65,537 and answers x mod k.
unfoldable pub next : ℕ → ℕ
next x = (75 * x + 74) % 65537

-- The kinds of an order are numbered from 0 to 3.
abbrev pub kind_at : ℕ → OrderKind
kind_at number =
    if number == 0 then Filled else if number == 1 then Busted else if number == 2 then Corrected
    else Rejected

-- An order is four draws: its quantity is 100 (1 + draw 50), its price 10 + draw 90, its Side(54)
-- 1 + draw 2, its kind draw 4.
abbrev pub drawn : ℕ → Drawn
drawn x = record {
  quantity = 100 * (1 + next x % 50);
  price = 10 + next (next x) % 90;
  side = 1 + next (next (next x)) % 2;
  kind = kind_at (next (next (next (next x))) % 4);
}

-- So many orders are drawn one behind another.
abbrev pub orders_from : ℕ → ℕ → List Drawn
orders_from x zero = []
orders_from x (suc count) = drawn x ∷ orders_from (next (next (next (next x)))) count

-- ---- how many there are of each kind

abbrev pub same_kind : OrderKind → OrderKind → Bool
same_kind Filled Filled = true
same_kind Busted Busted = true
same_kind Corrected Corrected = true
same_kind Rejected Rejected = true
same_kind kind other = false

abbrev pub count_of : OrderKind → List Drawn → ℕ
count_of kind orders = count_by (λ order. same_kind kind order.kind) orders

abbrev pub kinds_in : List Drawn → Kinds
kinds_in orders = record {
  filled = count_of Filled orders;
  busted = count_of Busted orders;
  corrected = count_of Corrected orders;
  rejected = count_of Rejected orders;
}

abbrev pub kinds_of : (first count : ℕ) → Kinds
kinds_of first count = kinds_in (orders_from first count)

-- ---- what the venue reports of an order

-- The order is new: nothing is filled, and its quantity is open.
abbrev pub accepted : Drawn → Report
accepted order = record {
  exec_type = exec.New;
  status = status.New;
  fill = None;
  leaves = order.quantity;
  cum = 0;
  average = 0;
}

-- The whole quantity is filled at the price.
abbrev pub filled : Drawn → Report
filled order = record {
  exec_type = exec.Trade;
  status = status.Filled;
  fill = Some order.quantity;
  leaves = 0;
  cum = order.quantity;
  average = order.price;
}

-- Half of the quantity is filled at the price.
abbrev pub half_filled : Drawn → Report
half_filled order = record {
  exec_type = exec.Trade;
  status = status.PartiallyFilled;
  fill = Some (order.quantity / 2);
  leaves = order.quantity / 2;
  cum = order.quantity / 2;
  average = order.price;
}

-- The fill of the report before is taken back.
abbrev pub busted : Drawn → Report
busted order = record {
  exec_type = exec.TradeCancel;
  status = status.New;
  fill = None;
  leaves = order.quantity;
  cum = 0;
  average = 0;
}

-- The fill of the report before was of a quarter of the quantity.
abbrev pub corrected : Drawn → Report
corrected order = record {
  exec_type = exec.TradeCorrect;
  status = status.PartiallyFilled;
  fill = Some (order.quantity / 4);
  leaves = 3 * order.quantity / 4;
  cum = order.quantity / 4;
  average = order.price;
}

-- The order is rejected.
abbrev pub rejected : Report
rejected = record {
  exec_type = exec.Rejected;
  status = status.Rejected;
  fill = None;
  leaves = 0;
  cum = 0;
  average = 0;
}

-- The reports of an order, by its kind.
abbrev pub reports_by : OrderKind → Drawn → List Report
reports_by Filled order = accepted order ∷ filled order ∷ []
reports_by Busted order = accepted order ∷ half_filled order ∷ busted order ∷ []
reports_by Corrected order = accepted order ∷ half_filled order ∷ corrected order ∷ []
reports_by Rejected order = rejected ∷ []

abbrev pub reports_of : Drawn → List Report
reports_of order = reports_by order.kind order

-- ---- the fields of a message

-- A field is its text and SOH, ..
abbrev pub text_field : List ℕ → List ℕ
text_field text = text ++ SOH ∷ []

-- .. or a text, a number behind it, and SOH.
abbrev pub number_field : List ℕ → ℕ → List ℕ
number_field text number = text ++ decimal number ++ SOH ∷ []

abbrev pub type_text : MsgType → List ℕ
type_text Logon = codes "35=A"
type_text NewOrderSingle = codes "35=D"
type_text ExecutionReport = codes "35=8"

abbrev pub sender_text : Side → List ℕ
sender_text Client = codes "49=CLNT"
sender_text Venue = codes "49=VENU"

-- The header of a message.
abbrev pub header : Side → MsgType → ℕ → List ℕ
header side type number = text_field (type_text type)
    ++ text_field (sender_text side) ++ text_field (codes "56=GATE")
    ++ number_field (codes "34=") number ++ text_field (codes "52=20240102-10:00:00")

-- The fields of a Logon behind its header.
abbrev pub logon : Side → List ℕ
logon Client = text_field (codes "98=0") ++ text_field (codes "108=30")
logon Venue =
    text_field (codes "98=0") ++ text_field (codes "108=30") ++ text_field (codes "1137=9")

-- Those of the New Order of this number.
abbrev pub new_order : ℕ → Drawn → List ℕ
new_order number order = number_field (codes "11=C") number ++ text_field (codes "21=1")
    ++ text_field (codes "55=SYM") ++ number_field (codes "54=") order.side
    ++ text_field (codes "60=20240102-10:00:00") ++ number_field (codes "38=") order.quantity
    ++ text_field (codes "40=2") ++ number_field (codes "44=") order.price

abbrev pub exec_text : ExecType → List ℕ
exec_text exec.New = codes "150=0"
exec_text exec.Trade = codes "150=F"
exec_text exec.TradeCancel = codes "150=H"
exec_text exec.TradeCorrect = codes "150=G"
exec_text exec.Rejected = codes "150=8"

abbrev pub status_text : OrdStatus → List ℕ
status_text status.New = codes "39=0"
status_text status.PartiallyFilled = codes "39=1"
status_text status.Filled = codes "39=2"
status_text status.Rejected = codes "39=8"

-- A report that takes back or corrects is of the report before, and ExecRefID(19) is its ExecID.
abbrev pub reference : ExecType → ℕ → List ℕ
reference exec.TradeCancel before = number_field (codes "19=E") before
reference exec.TradeCorrect before = number_field (codes "19=E") before
reference type before = []

-- A report that rejects says why.
abbrev pub reject_reason : ExecType → List ℕ
reject_reason exec.Rejected = text_field (codes "103=0")
reject_reason type = []

-- The quantity of a fill, and its price.
abbrev pub fill_fields : Option ℕ → ℕ → List ℕ
fill_fields None price = []
fill_fields (Some quantity) price =
    number_field (codes "32=") quantity ++ number_field (codes "31=") price

-- The fields of a report on the order of this number behind its header. So many reports came
-- before, and the ExecIDs count through the whole drill.
abbrev pub report_fields : (number before : ℕ) → Drawn → Report → List ℕ
report_fields number before order report =
    number_field (codes "37=O") number ++ number_field (codes "11=C") number
    ++ number_field (codes "17=E") (before + 1) ++ reference report.exec_type before
    ++ text_field (exec_text report.exec_type) ++ text_field (status_text report.status)
    ++ reject_reason report.exec_type
    ++ text_field (codes "55=SYM") ++ number_field (codes "54=") order.side
    ++ fill_fields report.fill order.price
    ++ number_field (codes "151=") report.leaves ++ number_field (codes "14=") report.cum
    ++ number_field (codes "6=") report.average

-- ---- the messages of a day, in order

-- A message that has no number yet.
pub record Message : Type 0 where
  pub side : Side
  pub type : MsgType
  pub fields : List ℕ

-- The New Order of this number.
abbrev pub order_message : ℕ → Drawn → Message
order_message number order =
    record { side = Client; type = NewOrderSingle; fields = new_order number order }

-- A report on the order of this number, behind so many reports.
abbrev pub report_message : (number before : ℕ) → Drawn → Report → Message
report_message number before order report = record {
  side = Venue;
  type = ExecutionReport;
  fields = report_fields number before order report;
}

abbrev pub report_messages : (number before : ℕ) → Drawn → List Report → List Message
report_messages number before order [] = []
report_messages number before order (report ∷ reports) =
    report_message number before order report
    ∷ report_messages number (before + 1) order reports

-- Of each order the client sends a New Order, and the venue its reports.
abbrev pub messages_from : (number before : ℕ) → List Drawn → List Message
messages_from number before [] = []
messages_from number before (order ∷ orders) = order_message number order
    ∷ report_messages number before order (reports_of order)
    ++ messages_from (number + 1) (before + length (reports_of order)) orders

-- ---- their numbers

abbrev pub number_of : Side → Numbers → ℕ
number_of Client numbers = numbers.client
number_of Venue numbers = numbers.venue

abbrev pub past : Side → Numbers → Numbers
past Client numbers = record { client = numbers.client + 1; venue = numbers.venue }
past Venue numbers = record { client = numbers.client; venue = numbers.venue + 1 }

abbrev pub body_of : ℕ → Message → List ℕ
body_of number message = header message.side message.type number ++ message.fields

-- Each side numbers its own messages: these are the next numbers.
abbrev pub numbered : Numbers → List Message → List Event
numbered numbers [] = []
numbered numbers (message ∷ messages) =
    event.Frame message.side (body_of (number_of message.side numbers) message)
    ∷ numbered (past message.side numbers) messages

-- ---- the capture

-- 2024-01-02 10:00:00 UTC
abbrev pub morning : ℕ
morning = 1704189600000

-- The Logon of a side is its message 1.
abbrev pub logon_event : Side → Event
logon_event side = event.Frame side (header side Logon 1 ++ logon side)

-- Both sides log on.
abbrev pub drill_begin : List Event
drill_begin = event.At morning ∷ event.Opened Venue ∷ logon_event Venue
    ∷ event.Opened Client ∷ logon_event Client ∷ []

-- Then these orders are played.
abbrev pub life_with : List Drawn → List Event
life_with orders =
    drill_begin ++ numbered (record { client = 2; venue = 2 }) (messages_from 1 0 orders)

abbrev pub drill_names : Names
drill_names = record {
  client_our = codes "GATE";
  client_peer = codes "CLNT";
  venue_our = codes "GATE";
  venue_peer = codes "VENU";
}

-- HeartBtInt(108), in seconds
abbrev pub drill_heart : ℕ
drill_heart = 30

abbrev pub drill_events : (first count : ℕ) → List Event
drill_events first count = life_with (orders_from first count)

abbrev pub capture_of : List Event → Capture
capture_of life =
    record { names = drill_names; heart = drill_heart; reset = None; lives = life ∷ [] }

abbrev pub drill_capture : (first count : ℕ) → Capture
drill_capture first count = capture_of (drill_events first count)
