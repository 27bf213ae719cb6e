use Rattle.report_rules.proofs.LacksDown.{lacks_mean}
use Rattle.report_rules.proofs.laws.lacks_are_meant.Goals as goal

pub returns : goal.returns
returns c = lacks_mean
