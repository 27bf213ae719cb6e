use Rattle.std.proofs.Common.{Ok, refl, sym, ap, ◌∙◌}
use Rattle.rows_fix50.specs.Header.{completed_by}
use Rattle.first_faults.proofs.Given.{no_fault, reads}
use Rattle.requests_fix44.proofs.Means.{cancel_means}
use Rattle.requests_fix44.proofs.Given.{cancel_parties}
use Rattle.requests_fix44.proofs.message.read_cancel.Goals as goal

pub read_lines-requires : goal.read_lines-requires
read_lines-requires c =
    cancel_parties _ (no_fault c.cancel_request.ensures c.in_ok-fields.ensures)

pub returns-clause-says : goal.returns-clause-says
returns-clause-says c =
    let none = no_fault c.cancel_request.ensures c.in_ok-fields.ensures in
    ap completed_by (reads c.cancel_request.ensures c.in_ok-fields.ensures _ refl)
    ∙ ap Ok
    (sym (cancel_means _ none c.in_ok-cancel_request.field-0 c.in_ok-cancel_request.ensures.says))
