use Rattle.report_rules.proofs.GoDown.{goes_down}
use Rattle.report_rules.proofs.laws.reports_go_down.Goals as goal

pub returns : goal.returns
returns c = goes_down
