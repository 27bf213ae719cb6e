-- Inside: the step of a book by what a report tells, whichever version of FIX spells it; the steps
-- of both versions are this one.
use Rattle.std.specs.Prelude.{ℕ, List, [], pos, unwrap_or, Option}
use Rattle.std.specs.Option.{option_map}
use Rattle.order_meaning.specs.declared.Amount.{Amount}
use Rattle.order_meaning.specs.Report.{Exec, Trade, Correct, Bust, ExecutionReport, Report}
use Rattle.order_meaning.specs.Report.{Executed, NotCanceled}
use Rattle.order_meaning.specs.Book.{Book, Note, Change, Adds, Corrects, Busts, Keeps, reported}
use Rattle.order_meaning.specs.Book.{in_phase}

abbrev pub none_done : Amount
none_done = record { units = pos 0 }

-- what a report tells of its order
abbrev pub note_meant : ExecutionReport → Note
note_meant r = record {
  order_id = r.order_id;
  cl_ord_id = r.cl_ord_id;
  exec_id = r.exec_id;
  phase = r.ord_status;
  qty = r.order_qty;
  price = r.price;
  cum = r.cum;
  leaves = r.leaves;
  avg = r.avg;
}

-- what a report does to the executions of its order
abbrev pub change_meant : Exec → (ref_id id : List ℕ) → (qty price : Amount) → Change
change_meant Trade ref_id id qty price = Adds id qty price
change_meant Correct ref_id id qty price = Corrects ref_id id qty price
change_meant Bust ref_id id qty price = Busts ref_id
change_meant exec ref_id id qty price = Keeps

abbrev pub step_meant : Book → Report → Book
step_meant book (Executed r) =
    reported r.resend (note_meant r)
    (change_meant r.exec (unwrap_or r.ref_id []) (unwrap_or r.exec_id [])
    (unwrap_or r.last_qty none_done) (unwrap_or r.last_px none_done))
    book
step_meant book (NotCanceled r) = in_phase r.order_id r.ord_status book

-- a message that is no report changes nothing
abbrev pub step_if : Book → Option Report → Book
step_if book report = unwrap_or (option_map (step_meant book) report) book
