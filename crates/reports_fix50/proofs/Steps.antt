-- The step of a book by a message is one by what the message means as a report.
use Rattle.std.proofs.Common.{◌≡◌, ℕ, Bool, true, false, ◌==◌, ◌||◌, List, [], Option, Some, None}
use Rattle.std.proofs.Common.{refl, ◌∙◌, if◌then◌else◌, unwrap_or, option_map, arith}
use Rattle.std.proofs.lemmas.Bool.Decides.{nat_tests}
use Rattle.message_tables.specs.Tables.{Message, text_in, code_in}
use Rattle.order_meaning.specs.declared.Amount.{Amount}
use Rattle.order_meaning.specs.Report.{Exec, Trade, Correct, Bust, Status, Other, ExecutionReport}
use Rattle.order_meaning.specs.Report.{Executed, NotCanceled}
use Rattle.order_meaning.specs.Book.{Book, Change, Adds, Corrects, Busts, Keeps, reported}
use Rattle.order_meaning.specs.Meant.{change_meant, step_meant, step_if}
use Rattle.row_values.specs.Amounts.{amount_in}
use Rattle.row_values.proofs.StepsByType.{by_type}
use Rattle.reports_fix50.specs.Sense.{exec_of, execution_of, cancel_reject_of, report50}
use Rattle.reports_fix50.specs.Step.{note_of, change_of, step50}

-- the changes, by the tests that tell them apart; what is done with a change is left open
by_exec : (none trade correct bust status : Bool) (exec_type : ℕ) (ref_id id : List ℕ)
    (qty price : Amount) (book : Book) (done : Change → Book)
    → (trade ≡ true → status ≡ false) → (correct ≡ true → status ≡ false)
    → (if none then book else
    done (if trade then Adds id qty price else
    (if correct then Corrects ref_id id qty price else (if bust then Busts ref_id else Keeps))))
    ≡ unwrap_or (option_map (λ exec. done (change_meant exec ref_id
    (unwrap_or (if status then None else Some id) []) qty price))
    (if none then None else (if trade then Some Trade else (if correct then Some Correct else
    (if bust then Some Bust else (if status then Some Status else Some (Other exec_type))))))) book
by_exec true trade correct bust status exec_type ref_id id qty price book done t c = refl
by_exec false true correct bust true exec_type ref_id id qty price book done t c =
    let e = t refl in cc
by_exec false true correct bust false exec_type ref_id id qty price book done t c = refl
by_exec false false true bust true exec_type ref_id id qty price book done t c =
    let e = c refl in cc
by_exec false false true bust false exec_type ref_id id qty price book done t c = refl
by_exec false false false true status exec_type ref_id id qty price book done t c = refl
by_exec false false false false true exec_type ref_id id qty price book done t c = refl
by_exec false false false false false exec_type ref_id id qty price book done t c = refl

trade_is_no_status : (t : ℕ) → (t == 70) ≡ true → (t == 73 || t == 76) ≡ false
trade_is_no_status t e = let is : t ≡ 70 = grind (arith, nat_tests) in rw is

correction_is_no_status : (t : ℕ) → (t == 71) ≡ true → (t == 73 || t == 76) ≡ false
correction_is_no_status t e = let is : t ≡ 71 = grind (arith, nat_tests) in rw is

mapped : (means : Option Exec) (book : Book) (report : Exec → ExecutionReport)
    → unwrap_or (option_map (λ exec. step_meant book (Executed (report exec))) means) book
    ≡ step_if book (option_map (λ exec. Executed (report exec)) means)
mapped None book report = refl
mapped (Some exec) book report = refl

of_execution : (book : Book) (m : Message)
    → (if code_in m.cells 150 == 74 || code_in m.cells 150 == 75 then book
    else reported m.resend (note_of m) (change_of (code_in m.cells 150) m) book)
    ≡ step_if book
    (option_map (λ exec. Executed (execution_of m exec)) (exec_of (code_in m.cells 150)))
unfolding change_of exec_of
of_execution book m =
    let t = code_in m.cells 150 in
    by_exec (t == 74 || t == 75) (t == 70) (t == 71) (t == 72) (t == 73 || t == 76) t
    (text_in m.cells 19) (text_in m.cells 17) (amount_in m.cells 32) (amount_in m.cells 31) book
    (λ change. reported m.resend (note_of m) change book)
    (trade_is_no_status t) (correction_is_no_status t)
    ∙ mapped (exec_of t) book (execution_of m)

pub steps_meant : (book : Book) (m : Message) → step50 book m ≡ step_if book (report50 m)
unfolding step50
steps_meant book m =
    by_type (m.letter == 56) (m.letter == 57) book _ _
    (option_map (λ exec. Executed (execution_of m exec)) (exec_of (code_in m.cells 150)))
    (NotCanceled (cancel_reject_of m)) (of_execution book m) refl
