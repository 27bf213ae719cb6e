use Rattle.report_rules.proofs.SenseDown.{keeps_sense}
use Rattle.report_rules.proofs.Worked.{worked}
use Rattle.report_rules.proofs.laws.sense_is_kept.Goals as goal

pub returns : goal.returns
returns c = let checked = worked in keeps_sense
