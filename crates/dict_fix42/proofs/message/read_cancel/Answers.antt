use Rattle.dict_fix42.proofs.Means.{cancel_means}
use Rattle.first_faults.proofs.Given.{no_fault, reads}
use Rattle.dict_fix42.proofs.message.read_cancel.Goals as goal

pub returns-clause-says : goal.returns-clause-says
returns-clause-says c =
    let none = no_fault c.cancel_request.ensures c.in_ok-fields.ensures in
    reads c.cancel_request.ensures c.in_ok-fields.ensures _
    (cancel_means _ none c.in_ok-cancel_request.field-0 c.in_ok-cancel_request.ensures.says)
