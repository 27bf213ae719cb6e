use Rattle.first_faults.proofs.Given.{no_fault, reads}
use Rattle.reports_fix42.proofs.message.read_cancel_reject.Goals as goal

pub returns-clause-says : goal.returns-clause-says
returns-clause-says c =
    let none = no_fault c.cancel_reject.ensures c.in_ok-fields.ensures in
    reads c.cancel_reject.ensures c.in_ok-fields.ensures _
    (c.in_ok-cancel_reject.ensures.says.means none)
