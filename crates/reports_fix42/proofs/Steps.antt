-- The step of a book by a message is one by what the message means as a report.
use Rattle.std.proofs.Common.{◌≡◌, ℕ, Bool, true, false, ◌==◌, ◌||◌, List, [], Some, None}
use Rattle.std.proofs.Common.{refl, ap, if◌then◌else◌, unwrap_or, arith}
use Rattle.std.proofs.lemmas.Bool.Decides.{nat_tests}
use Rattle.message_tables.specs.Tables.{Message, text_in, code_in}
use Rattle.order_meaning.specs.declared.Amount.{Amount}
use Rattle.order_meaning.specs.Report.{Trade, Correct, Bust, Status, Other, Executed}
use Rattle.order_meaning.specs.Report.{NotCanceled}
use Rattle.order_meaning.specs.Book.{Book, Change, Adds, Corrects, Busts, Keeps, reported}
use Rattle.order_meaning.specs.Meant.{change_meant, step_meant, step_if}
use Rattle.row_values.specs.Amounts.{amount_in}
use Rattle.row_values.proofs.StepsByType.{by_type}
use Rattle.reports_fix42.specs.Sense.{exec_of, execution_of, cancel_reject_of, report42}
use Rattle.reports_fix42.specs.Step.{note_of, change_of, step42}

-- the changes, by the tests that tell them apart
by_exec : (bust correct status trade : Bool) (exec_type : ℕ) (ref_id id : List ℕ)
    (qty price : Amount) → (correct ≡ true → status ≡ false)
    → (if bust then Busts ref_id else (if correct then Corrects ref_id id qty price else
    (if status then Keeps else (if trade then Adds id qty price else Keeps))))
    ≡ change_meant (if bust then Bust else (if correct then Correct else
    (if status then Status else (if trade then Trade else Other exec_type))))
    ref_id (unwrap_or (if status then None else Some id) []) qty price
by_exec true correct status trade exec_type ref_id id qty price apart = refl
by_exec false true true trade exec_type ref_id id qty price apart = let e = apart refl in cc
by_exec false true false trade exec_type ref_id id qty price apart = refl
by_exec false false true trade exec_type ref_id id qty price apart = refl
by_exec false false false true exec_type ref_id id qty price apart = refl
by_exec false false false false exec_type ref_id id qty price apart = refl

correction_is_no_status : (t : ℕ) → (t == 50) ≡ true → (t == 51) ≡ false
correction_is_no_status t e = grind (arith, nat_tests)

of_execution : (book : Book) (m : Message)
    → reported m.resend (note_of m) (change_of (code_in m.cells 20) (code_in m.cells 150) m) book
    ≡ step_meant book (Executed (execution_of m))
unfolding change_of exec_of
of_execution book m =
    let t = code_in m.cells 20 in
    let exec_type = code_in m.cells 150 in
    ap (λ (change : Change). reported m.resend (note_of m) change book)
    (by_exec (t == 49) (t == 50) (t == 51) (exec_type == 49 || exec_type == 50) exec_type
    (text_in m.cells 19) (text_in m.cells 17) (amount_in m.cells 32) (amount_in m.cells 31)
    (correction_is_no_status t))

pub steps_meant : (book : Book) (m : Message) → step42 book m ≡ step_if book (report42 m)
unfolding step42
steps_meant book m =
    by_type (m.letter == 56) (m.letter == 57) book _ _ (Some (Executed (execution_of m)))
    (NotCanceled (cancel_reject_of m)) (of_execution book m) refl
