use Rattle.request_rules.proofs.SenseUp.{keeps_sense}
use Rattle.request_rules.proofs.laws.sense_is_kept.Goals as goal

pub returns : goal.returns
returns c = keeps_sense
