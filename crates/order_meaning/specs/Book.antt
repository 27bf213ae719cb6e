-- Own: the book that whoever takes reports rebuilds: the orders, how far each has come, and its
-- executions; and how one report changes it. No version of FIX has a part in it.
use Rattle.std.specs.Prelude.{ℕ, Bool, true, false, ◌&&◌, List, [], ◌∷◌, ◌++◌, Some, None}
use Rattle.std.specs.Prelude.{if◌then◌else◌}
use Rattle.std.specs.declared.option.Option.{Option}
use Rattle.std.specs.List.{list_any}
use Rattle.std.specs.Str.{bytes_eq}
use Rattle.order_meaning.specs.declared.Amount.{Amount}
use Rattle.order_meaning.specs.Report.{Phase}

-- ---- books

-- an execution: the ExecIDs that name it, how much was done at which price, and whether it counts
pub record Execution : Type 0 where
  pub ids : List (List ℕ)
  pub qty : Amount
  pub price : Amount
  pub live : Bool

-- an order by its OrderID: the ClOrdIDs seen, and the one seen last; the ExecIDs seen
pub record Order : Type 0 where
  pub order_id : List ℕ
  pub ids : List (List ℕ)
  pub current : Option (List ℕ)
  pub phase : Phase
  pub qty : Option Amount
  pub price : Option Amount
  pub cum : Amount
  pub leaves : Amount
  pub avg : Amount
  pub seen : List (List ℕ)
  pub execs : List Execution

-- the orders, in the order in which they were first seen
abbrev pub Book : Type 0
Book = List Order

-- ---- what a report tells a book

-- what each execution report tells of its order; a status has no ExecID
pub record Note : Type 0 where
  pub order_id : List ℕ
  pub cl_ord_id : Option (List ℕ)
  pub exec_id : Option (List ℕ)
  pub phase : Phase
  pub qty : Option Amount
  pub price : Option Amount
  pub cum : Amount
  pub leaves : Amount
  pub avg : Amount

-- What a report does to the executions of its order: one more, with this one id; another quantity
-- and price, and one more id, for the execution of an id; that execution counts no more; nothing.
pub data Change : Type 0 where
  Adds : (id : List ℕ) → (qty price : Amount) → Change
  Corrects : (ref_id id : List ℕ) → (qty price : Amount) → Change
  Busts : (ref_id : List ℕ) → Change
  Keeps : Change

-- ---- how an order changes

abbrev pub is_among : List ℕ → List (List ℕ) → Bool
is_among id ids = list_any (λ other. bytes_eq other id) ids

-- an id at the end, if there is one and it is new
abbrev pub with_new : Option (List ℕ) → List (List ℕ) → List (List ℕ)
with_new None ids = ids
with_new (Some id) ids = if is_among id ids then ids else ids ++ id ∷ []

-- an id at the end, if there is one
abbrev pub with_id : Option (List ℕ) → List (List ℕ) → List (List ℕ)
with_id None ids = ids
with_id (Some id) ids = ids ++ id ∷ []

-- what is told now, or else what was told before
abbrev pub or_before : {A : Type 0} → Option A → Option A → Option A
or_before None before = before
or_before (Some now) before = Some now

-- THE EXECUTION OF AN ID is the first that has it among its ids; it is changed, if there is one.
unfoldable pub at_execution : List ℕ → (Execution → Execution) → List Execution → List Execution
at_execution id change [] = []
at_execution id change (execution ∷ executions) =
    if is_among id execution.ids
    then change execution ∷ executions
    else execution ∷ at_execution id change executions

abbrev pub corrected : List ℕ → Amount → Amount → Execution → Execution
corrected id qty price execution = record {
  ids = execution.ids ++ id ∷ [];
  qty = qty;
  price = price;
  live = execution.live;
}

abbrev pub busted : Execution → Execution
busted execution = record {
  ids = execution.ids;
  qty = execution.qty;
  price = execution.price;
  live = false;
}

unfoldable pub changed : Change → List Execution → List Execution
changed (Adds id qty price) executions =
    executions ++ record { ids = id ∷ []; qty = qty; price = price; live = true } ∷ []
changed (Corrects ref_id id qty price) executions =
    at_execution ref_id (corrected id qty price) executions
changed (Busts ref_id) executions = at_execution ref_id busted executions
changed Keeps executions = executions

-- an order of which nothing was told before this
abbrev pub unknown : Note → Order
unknown note = record {
  order_id = note.order_id;
  ids = [];
  current = None;
  phase = note.phase;
  qty = None;
  price = None;
  cum = note.cum;
  leaves = note.leaves;
  avg = note.avg;
  seen = [];
  execs = [];
}

abbrev pub noted : Note → Change → Order → Order
noted note change order = record {
  order_id = order.order_id;
  ids = with_new note.cl_ord_id order.ids;
  current = or_before note.cl_ord_id order.current;
  phase = note.phase;
  qty = or_before note.qty order.qty;
  price = or_before note.price order.price;
  cum = note.cum;
  leaves = note.leaves;
  avg = note.avg;
  seen = with_id note.exec_id order.seen;
  execs = changed change order.execs;
}

-- ---- how a book changes

abbrev pub is_seen : Option (List ℕ) → Order → Bool
is_seen None order = false
is_seen (Some id) order = is_among id order.seen

-- THE BOOK AFTER AN EXECUTION REPORT: its order is made at the end of the book where it is absent.
-- A report that repeats one, PossResend(97), and whose ExecID its order has seen changes nothing.
unfoldable pub reported : Bool → Note → Change → Book → Book
reported resend note change [] = noted note change (unknown note) ∷ []
reported resend note change (order ∷ orders) =
    if bytes_eq order.order_id note.order_id
    then (if resend && is_seen note.exec_id order then order else noted note change order) ∷ orders
    else order ∷ reported resend note change orders

-- THE BOOK AFTER A CANCEL REJECT: its order has this phase, where it stands in the book.
unfoldable pub in_phase : List ℕ → Phase → Book → Book
in_phase order_id phase [] = []
in_phase order_id phase (order ∷ orders) =
    if bytes_eq order.order_id order_id
    then record order { phase = phase } ∷ orders
    else order ∷ in_phase order_id phase orders
