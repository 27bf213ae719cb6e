-- Standard: FIX 4.4, volume 4, Execution Report (8) and Order Cancel Reject (9): how a book of
-- orders changes by a report.
use Rattle.std.specs.Prelude.{ℕ, ◌==◌, if◌then◌else◌}
use Rattle.message_tables.specs.Tables.{Tag, Message, said_at, text_in, code_in}
use Rattle.order_meaning.specs.Book.{Book, Note, Change, Adds, Corrects, Busts, Keeps, reported}
use Rattle.order_meaning.specs.Book.{in_phase}
use Rattle.row_values.specs.Amounts.{amount_if, amount_in}
use Rattle.dict_fix44.specs.Sense.{phase_of, exec_id_of}

-- what an execution report tells of its order
abbrev pub note_of : Message → Note
note_of m = record {
  order_id = text_in m.cells 37;
  cl_ord_id = said_at m.cells (Tag 11);
  exec_id = exec_id_of m.cells;
  phase = phase_of (code_in m.cells 39);
  qty = amount_if m.cells 38;
  price = amount_if m.cells 44;
  cum = amount_in m.cells 14;
  leaves = amount_in m.cells 151;
  avg = amount_in m.cells 6;
}

-- What a report does to the executions of its order, by its ExecType (150): F trade, G trade
-- correct, H trade cancel; I, order status, and any other do nothing.
unfoldable pub change_of : ℕ → Message → Change
change_of exec_type m =
    if exec_type == 70
    then Adds (text_in m.cells 17) (amount_in m.cells 32) (amount_in m.cells 31)
    else (if exec_type == 71
    then Corrects (text_in m.cells 19) (text_in m.cells 17) (amount_in m.cells 32)
    (amount_in m.cells 31)
    else (if exec_type == 72 then Busts (text_in m.cells 19) else Keeps))

-- THE STEP OF A BOOK by a message of FIX 4.4. An execution report is noted; a cancel reject sets
-- the phase alone.
unfoldable pub step44 : Book → Message → Book
step44 book m =
    if m.letter == 56
    then reported m.resend (note_of m) (change_of (code_in m.cells 150) m) book
    else (if m.letter == 57
    then in_phase (text_in m.cells 37) (phase_of (code_in m.cells 39)) book
    else book)
