-- The step of a book by a message is one by what the message means as a report.
use Rattle.std.proofs.Common.{◌≡◌, ℕ, Bool, true, false, ◌==◌, List, [], Some, None}
use Rattle.std.proofs.Common.{refl, ap, if◌then◌else◌, unwrap_or, arith}
use Rattle.std.proofs.lemmas.Bool.Decides.{nat_tests}
use Rattle.message_tables.specs.Tables.{Message, text_in, code_in}
use Rattle.order_meaning.specs.declared.Amount.{Amount}
use Rattle.order_meaning.specs.Report.{Trade, Correct, Bust, Status, Other, Executed, NotCanceled}
use Rattle.order_meaning.specs.Book.{Book, Change, Adds, Corrects, Busts, Keeps, reported}
use Rattle.order_meaning.specs.Meant.{change_meant, step_meant, step_if}
use Rattle.row_values.specs.Amounts.{amount_in}
use Rattle.row_values.proofs.StepsByType.{by_type}
use Rattle.dict_fix44.specs.Sense.{exec_of, execution_of, cancel_reject_of, report44}
use Rattle.dict_fix44.specs.Step.{note_of, change_of, step44}

-- the changes, by the tests that tell them apart
by_exec : (trade correct bust status : Bool) (exec_type : ℕ) (ref_id id : List ℕ)
    (qty price : Amount) → (trade ≡ true → status ≡ false) → (correct ≡ true → status ≡ false)
    → (if trade then Adds id qty price else
    (if correct then Corrects ref_id id qty price else (if bust then Busts ref_id else Keeps)))
    ≡ change_meant (if trade then Trade else (if correct then Correct else (if bust then Bust else
    (if status then Status else Other exec_type)))) ref_id
    (unwrap_or (if status then None else Some id) []) qty price
by_exec true correct bust true exec_type ref_id id qty price t c = let e = t refl in cc
by_exec false true bust true exec_type ref_id id qty price t c = let e = c refl in cc
by_exec false false true status exec_type ref_id id qty price t c = refl
by_exec false false false true exec_type ref_id id qty price t c = refl
by_exec trade correct bust status exec_type ref_id id qty price t c = refl

apart : (t k : ℕ) → (k == 73) ≡ false → (t == k) ≡ true → (t == 73) ≡ false
apart t k other e = grind (arith, nat_tests)

of_execution : (book : Book) (m : Message)
    → reported m.resend (note_of m) (change_of (code_in m.cells 150) m) book
    ≡ step_meant book (Executed (execution_of m))
unfolding change_of exec_of
of_execution book m =
    let t = code_in m.cells 150 in
    ap (λ (change : Change). reported m.resend (note_of m) change book)
    (by_exec (t == 70) (t == 71) (t == 72) (t == 73) t (text_in m.cells 19) (text_in m.cells 17)
    (amount_in m.cells 32) (amount_in m.cells 31) (apart t 70 refl) (apart t 71 refl))

pub steps_meant : (book : Book) (m : Message) → step44 book m ≡ step_if book (report44 m)
unfolding step44
steps_meant book m =
    by_type (m.letter == 56) (m.letter == 57) book _ _ (Some (Executed (execution_of m)))
    (NotCanceled (cancel_reject_of m)) (of_execution book m) refl
