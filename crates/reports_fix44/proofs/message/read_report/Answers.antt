use Rattle.std.proofs.Common.{Ok, refl, sym, ap, ◌∙◌}
use Rattle.first_faults.proofs.Given.{no_fault, reads}
use Rattle.rows_fix50.specs.Header.{completed_by}
use Rattle.reports_fix44.proofs.Few.{few_parties, few_contras}
use Rattle.reports_fix44.proofs.message.read_report.Goals as goal

pub read_groups-requires-clause-parties : goal.read_groups-requires-clause-parties
read_groups-requires-clause-parties c =
    few_parties _ (no_fault c.execution_report.ensures c.in_ok-fields.ensures)

pub read_groups-requires-clause-contras : goal.read_groups-requires-clause-contras
read_groups-requires-clause-contras c =
    few_contras _ (no_fault c.execution_report.ensures c.in_ok-fields.ensures)

pub returns-clause-says : goal.returns-clause-says
returns-clause-says c =
    let none = no_fault c.execution_report.ensures c.in_ok-fields.ensures in
    ap completed_by (reads c.execution_report.ensures c.in_ok-fields.ensures _ refl)
    ∙ ap Ok
    (sym (c.in_ok-execution_report.ensures.says.means none))
