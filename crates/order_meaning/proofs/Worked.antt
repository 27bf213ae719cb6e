-- Worked examples: how reports change a book, by computation.
use Rattle.std.specs.Prelude.{◌≡◌, ℕ, ◌*◌, pos, Bool, true, false, List, [], ◌∷◌, codes, refl}
use Rattle.std.specs.Prelude.{Some, None}
use Rattle.std.specs.declared.option.Option.{Option}
use Rattle.order_meaning.specs.declared.Amount.{Amount}
use Rattle.order_meaning.specs.Report.{Phase, New, Partial, PendingCancel, CancelReject}
use Rattle.order_meaning.specs.Report.{NotCanceled, filled}
use Rattle.order_meaning.specs.Book.{Book, Execution, Order, Note, Adds, Corrects, Busts}
use Rattle.order_meaning.specs.Book.{Keeps, reported, changed, at_execution, in_phase}

abbrev whole : ℕ → Amount
whole n = record { units = pos (100_000_000 * n) }

-- what a report of the order O1, sent as A1, tells: its ExecID, the phase, what is left and done
abbrev told : Option (List ℕ) → Phase → (leaves cum avg : ℕ) → Note
told exec_id phase leaves cum avg = record {
  order_id = codes "O1";
  cl_ord_id = Some (codes "A1");
  exec_id = exec_id;
  phase = phase;
  qty = Some (whole 100);
  price = None;
  cum = whole cum;
  leaves = whole leaves;
  avg = whole avg;
}

abbrev order : Phase → (leaves cum avg : ℕ) → List (List ℕ) → List Execution → Order
order phase leaves cum avg seen execs = record {
  order_id = codes "O1";
  ids = codes "A1" ∷ [];
  current = Some (codes "A1");
  phase = phase;
  qty = Some (whole 100);
  price = None;
  cum = whole cum;
  leaves = whole leaves;
  avg = whole avg;
  seen = seen;
  execs = execs;
}

abbrev execution : List (List ℕ) → (qty price : ℕ) → Bool → Execution
execution ids qty price live = record {
  ids = ids;
  qty = whole qty;
  price = whole price;
  live = live;
}

-- 40 at 10 are done
abbrev traded : Book
traded = order Partial 60 40 10 (codes "E1" ∷ []) (execution (codes "E1" ∷ []) 40 10 true ∷ []) ∷ []

-- each report, the book before it and the book after it
pub record Reports : Type 0 where
  pub trade : reported false (told (Some (codes "E1")) Partial 60 40 10)
      (Adds (codes "E1") (whole 40) (whole 10)) []
      ≡ traded
  -- a report that is said again changes nothing, and one that only looks alike does
  pub again : reported true (told (Some (codes "E1")) Partial 60 40 10)
      (Adds (codes "E1") (whole 40) (whole 10)) traded
      ≡ traded
  pub alike : reported false (told (Some (codes "E1")) Partial 20 80 10)
      (Adds (codes "E1") (whole 40) (whole 10)) traded
      ≡ order Partial 20 80 10 (codes "E1" ∷ codes "E1" ∷ [])
      (execution (codes "E1" ∷ []) 40 10 true ∷ execution (codes "E1" ∷ []) 40 10 true ∷ []) ∷ []
  -- 30 at 11 are done, and not 40 at 10; then that is corrected, by its later id; then it is busted
  pub correction : reported false (told (Some (codes "E2")) Partial 70 30 11)
      (Corrects (codes "E1") (codes "E2") (whole 30) (whole 11)) traded
      ≡ order Partial 70 30 11 (codes "E1" ∷ codes "E2" ∷ [])
      (execution (codes "E1" ∷ codes "E2" ∷ []) 30 11 true ∷ []) ∷ []
  pub corrected_again : reported false (told (Some (codes "E3")) Partial 80 20 11)
      (Corrects (codes "E2") (codes "E3") (whole 20) (whole 11))
      (order Partial 70 30 11 (codes "E1" ∷ codes "E2" ∷ [])
      (execution (codes "E1" ∷ codes "E2" ∷ []) 30 11 true ∷ []) ∷ [])
      ≡ order Partial 80 20 11 (codes "E1" ∷ codes "E2" ∷ codes "E3" ∷ [])
      (execution (codes "E1" ∷ codes "E2" ∷ codes "E3" ∷ []) 20 11 true ∷ []) ∷ []
  pub bust : reported false (told (Some (codes "E2")) New 100 0 0) (Busts (codes "E1")) traded
      ≡ order New 100 0 0 (codes "E1" ∷ codes "E2" ∷ [])
      (execution (codes "E1" ∷ []) 40 10 false ∷ []) ∷ []
  -- the correction of an execution that was never seen is only noted
  pub unseen : reported false (told (Some (codes "E2")) Partial 70 30 11)
      (Corrects (codes "E9") (codes "E2") (whole 30) (whole 11)) traded
      ≡ order Partial 70 30 11 (codes "E1" ∷ codes "E2" ∷ [])
      (execution (codes "E1" ∷ []) 40 10 true ∷ []) ∷ []
  -- a status has no ExecID, so that it is never one that was seen
  pub status : reported true (told None PendingCancel 60 40 10) Keeps traded
      ≡ order PendingCancel 60 40 10 (codes "E1" ∷ []) (execution (codes "E1" ∷ []) 40 10 true ∷ [])
      ∷ []

reports : Reports
unfolding reported changed at_execution
reports = record {
  trade = refl;
  again = refl;
  alike = refl;
  correction = refl;
  corrected_again = refl;
  bust = refl;
  unseen = refl;
  status = refl;
}

-- a report of another order, O2, of which no ClOrdID is known
abbrev other : Note
other = record {
  order_id = codes "O2";
  cl_ord_id = None;
  exec_id = Some (codes "E1");
  phase = New;
  qty = None;
  price = Some (whole 7);
  cum = whole 0;
  leaves = whole 5;
  avg = whole 0;
}

abbrev other_order : Order
other_order = record {
  order_id = codes "O2";
  ids = [];
  current = None;
  phase = New;
  qty = None;
  price = Some (whole 7);
  cum = whole 0;
  leaves = whole 5;
  avg = whole 0;
  seen = codes "E1" ∷ [];
  execs = [];
}

-- an order that was replaced keeps both of its ClOrdIDs, and its price where none is told
abbrev replaced : Note
replaced = record other { cl_ord_id = Some (codes "A3"); exec_id = Some (codes "E2"); price = None }

pub record Orders : Type 0 where
  -- each order has ExecIDs of its own; a new one stands at the end
  pub second : reported true other Keeps traded
      ≡ order Partial 60 40 10 (codes "E1" ∷ []) (execution (codes "E1" ∷ []) 40 10 true ∷ [])
      ∷ other_order ∷ []
  pub renamed : reported false replaced Keeps (other_order ∷ [])
      ≡ record other_order {
        ids = codes "A3" ∷ [];
        current = Some (codes "A3");
        seen = codes "E1" ∷ codes "E2" ∷ [];
      } ∷ []

orders : Orders
unfolding reported changed
orders = record { second = refl; renamed = refl }

-- a cancel reject sets the phase of an order of the book, and makes none
pub record Rejects : Type 0 where
  pub phase : in_phase (codes "O1") PendingCancel traded
      ≡ order PendingCancel 60 40 10 (codes "E1" ∷ []) (execution (codes "E1" ∷ []) 40 10 true ∷ [])
      ∷ []
  pub absent : in_phase (codes "O2") PendingCancel traded ≡ traded

rejects : Rejects
unfolding in_phase
rejects = record { phase = refl; absent = refl }

-- a cancel reject of A2, which says so much of the order that was to be canceled
abbrev reject : Option (List ℕ) → CancelReject
reject orig_id = record {
  resend = false;
  order_id = codes "O1";
  secondary_id = None;
  cl_ord_id = codes "A2";
  orig_id = orig_id;
  ord_status = New;
  account = None;
  transact_time = None;
  response_to = 49;
  cxl_reason = None;
  text = None;
}

pub record Originals : Type 0 where
  pub known : filled (Some (codes "A1")) (NotCanceled (reject None))
      ≡ NotCanceled (reject (Some (codes "A1")))
  pub said : filled (Some (codes "A1")) (NotCanceled (reject (Some (codes "A0"))))
      ≡ NotCanceled (reject (Some (codes "A0")))
  pub unknown : filled None (NotCanceled (reject None)) ≡ NotCanceled (reject None)

originals : Originals
originals = record { known = refl; said = refl; unknown = refl }
