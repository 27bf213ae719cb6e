use Rattle.std.proofs.Common.{Ok, refl, sym, ap, ◌∙◌}
use Rattle.first_faults.proofs.Given.{no_fault, reads}
use Rattle.rows_fix50.specs.Header.{completed_by}
use Rattle.reports_fix44.proofs.message.read_cancel_reject.Goals as goal

pub returns-clause-says : goal.returns-clause-says
returns-clause-says c =
    let none = no_fault c.cancel_reject.ensures c.in_ok-fields.ensures in
    ap completed_by (reads c.cancel_reject.ensures c.in_ok-fields.ensures _ refl)
    ∙ ap Ok
    (sym (c.in_ok-cancel_reject.ensures.says.means none))
