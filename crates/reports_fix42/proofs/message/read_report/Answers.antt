use Rattle.first_faults.proofs.Given.{no_fault, reads}
use Rattle.reports_fix42.proofs.Means.{few_contras}
use Rattle.reports_fix42.proofs.message.read_report.Goals as goal

pub read_contras-requires : goal.read_contras-requires
read_contras-requires c =
    few_contras _ (no_fault c.execution_report.ensures c.in_ok-fields.ensures)

pub returns-clause-says : goal.returns-clause-says
returns-clause-says c =
    let none = no_fault c.execution_report.ensures c.in_ok-fields.ensures in
    reads c.execution_report.ensures c.in_ok-fields.ensures _
    (c.in_ok-execution_report.ensures.says.means none)
