use Rattle.dict_fix42.proofs.Means.{status_means}
use Rattle.first_faults.proofs.Given.{no_fault, reads}
use Rattle.dict_fix42.proofs.message.read_status.Goals as goal

pub returns-clause-says : goal.returns-clause-says
returns-clause-says c =
    let none = no_fault c.status_request.ensures c.in_ok-fields.ensures in
    reads c.status_request.ensures c.in_ok-fields.ensures _
    (status_means _ none c.in_ok-status_request.field-0 c.in_ok-status_request.ensures.says)
