use Rattle.dict_fix42.proofs.Means.{new_means}
use Rattle.first_faults.proofs.Given.{no_fault, reads}
use Rattle.dict_fix42.proofs.Given.{new_allocs, new_sessions}
use Rattle.dict_fix42.proofs.message.read_new.Goals as goal

pub read_groups-requires-clause-allocs : goal.read_groups-requires-clause-allocs
read_groups-requires-clause-allocs c =
    new_allocs _ (no_fault c.new_order.ensures c.in_ok-fields.ensures)

pub read_groups-requires-clause-sessions : goal.read_groups-requires-clause-sessions
read_groups-requires-clause-sessions c =
    new_sessions _ (no_fault c.new_order.ensures c.in_ok-fields.ensures)

pub returns-clause-says : goal.returns-clause-says
returns-clause-says c =
    let none = no_fault c.new_order.ensures c.in_ok-fields.ensures in
    reads c.new_order.ensures c.in_ok-fields.ensures _
    (new_means _ none c.in_ok-new_order.field-0 c.in_ok-new_order.ensures.says)
