-- The step of a book by a message that is an execution report, a cancel reject or neither, by the
-- tests of its type.
use Rattle.std.proofs.Common.{◌≡◌, Bool, true, false, Some, None, Option, refl, if◌then◌else◌}
use Rattle.order_meaning.specs.Report.{Report}
use Rattle.order_meaning.specs.Book.{Book}
use Rattle.order_meaning.specs.Meant.{step_meant, step_if}

pub by_type : (executed refused : Bool) (book one other : Book) (report : Option Report)
    (reject : Report) → one ≡ step_if book report → other ≡ step_meant book reject
    → (if executed then one else (if refused then other else book))
    ≡ step_if book (if executed then report else (if refused then Some reject else None))
by_type true refused book one other report reject is_report is_reject = is_report
by_type false true book one other report reject is_report is_reject = is_reject
by_type false false book one other report reject is_report is_reject = refl
