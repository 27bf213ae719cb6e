use Rattle.std.proofs.Common.{Ok, refl, sym, ap, ◌∙◌}
use Rattle.rows_fix50.specs.Header.{completed_by}
use Rattle.first_faults.proofs.Given.{no_fault, reads}
use Rattle.requests_fix44.proofs.Means.{status_means}
use Rattle.requests_fix44.proofs.Given.{status_parties}
use Rattle.requests_fix44.proofs.message.read_status.Goals as goal

pub read_lines-requires : goal.read_lines-requires
read_lines-requires c =
    status_parties _ (no_fault c.status_request.ensures c.in_ok-fields.ensures)

pub returns-clause-says : goal.returns-clause-says
returns-clause-says c =
    let none = no_fault c.status_request.ensures c.in_ok-fields.ensures in
    ap completed_by (reads c.status_request.ensures c.in_ok-fields.ensures _ refl)
    ∙ ap Ok
    (sym (status_means _ none c.in_ok-status_request.field-0 c.in_ok-status_request.ensures.says))
