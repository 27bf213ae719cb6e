-- Standard: FIX 4.2, Execution Report (8), Order Cancel Reject (9): what they tell of an order.
-- Own: how the book of whoever takes them changes. It goes by the codes of FIX 4.2 alone.
use Rattle.std.specs.Prelude.{ℕ, ◌==◌, ◌||◌, if◌then◌else◌}
use Rattle.message_tables.specs.Tables.{Tag, Message, said_at, text_in, code_in}
use Rattle.row_values.specs.Amounts.{amount_if, amount_in}
use Rattle.order_meaning.specs.Book.{Book, Note, Change, Adds, Corrects, Busts, Keeps, reported}
use Rattle.order_meaning.specs.Book.{in_phase}
use Rattle.reports_fix42.specs.Sense.{exec_id_of, phase_of}

-- what an execution report tells of its order
abbrev pub note_of : Message → Note
note_of m = record {
  order_id = text_in m.cells 37;
  cl_ord_id = said_at m.cells (Tag 11);
  exec_id = exec_id_of m.cells;
  phase = phase_of (code_in m.cells 39);
  qty = amount_if m.cells 38;
  price = amount_if m.cells 44;
  cum = amount_in m.cells 14;
  leaves = amount_in m.cells 151;
  avg = amount_in m.cells 6;
}

-- What it does to the order's executions, by ExecTransType (20): 1 Cancel, 2 Correct, 3 Status; and
-- else by ExecType (150): 1 Partial fill, 2 Fill.
unfoldable pub change_of : (trans_type exec_type : ℕ) → Message → Change
change_of trans_type exec_type m =
    if trans_type == 49 then Busts (text_in m.cells 19) else
    (if trans_type == 50
    then Corrects (text_in m.cells 19) (text_in m.cells 17) (amount_in m.cells 32)
    (amount_in m.cells 31) else
    (if trans_type == 51 then Keeps else
    (if exec_type == 49 || exec_type == 50
    then Adds (text_in m.cells 17) (amount_in m.cells 32) (amount_in m.cells 31) else Keeps)))

-- THE BOOK AFTER A REPORT, by its letter; any other message leaves it
unfoldable pub step42 : Book → Message → Book
step42 book m =
    if m.letter == 56
    then reported m.resend (note_of m) (change_of (code_in m.cells 20) (code_in m.cells 150) m) book
    else (if m.letter == 57
    then in_phase (text_in m.cells 37) (phase_of (code_in m.cells 39)) book else book)
