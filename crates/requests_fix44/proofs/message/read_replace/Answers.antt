use Rattle.std.proofs.Common.{Ok, refl, sym, ap, ◌∙◌}
use Rattle.rows_fix50.specs.Header.{completed_by}
use Rattle.first_faults.proofs.Given.{no_fault, reads}
use Rattle.requests_fix44.proofs.Means.{replace_means}
use Rattle.requests_fix44.proofs.Given.{replace_parties, replace_allocs, replace_sessions}
use Rattle.requests_fix44.proofs.message.read_replace.Goals as goal

pub read_groups-requires-clause-parties : goal.read_groups-requires-clause-parties
read_groups-requires-clause-parties c =
    replace_parties _ (no_fault c.replace_request.ensures c.in_ok-fields.ensures)

pub read_groups-requires-clause-allocs : goal.read_groups-requires-clause-allocs
read_groups-requires-clause-allocs c =
    replace_allocs _ (no_fault c.replace_request.ensures c.in_ok-fields.ensures)

pub read_groups-requires-clause-sessions : goal.read_groups-requires-clause-sessions
read_groups-requires-clause-sessions c =
    replace_sessions _ (no_fault c.replace_request.ensures c.in_ok-fields.ensures)

pub returns-clause-says : goal.returns-clause-says
returns-clause-says c =
    let none = no_fault c.replace_request.ensures c.in_ok-fields.ensures in
    ap completed_by (reads c.replace_request.ensures c.in_ok-fields.ensures _ refl)
    ∙ ap Ok
    (sym
    (replace_means _ none c.in_ok-replace_request.field-0 c.in_ok-replace_request.ensures.says))
