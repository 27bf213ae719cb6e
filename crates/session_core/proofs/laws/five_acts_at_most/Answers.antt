-- By the rows.
use Rattle.session_core.proofs.Always.{five_acts}
use Rattle.session_core.proofs.laws.five_acts_at_most.Goals as goal

pub returns : goal.returns
returns c = five_acts
