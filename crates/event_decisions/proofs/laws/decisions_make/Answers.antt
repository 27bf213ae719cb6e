-- By what the acts of each row are.
use Rattle.event_decisions.proofs.Makes.{decisions_make}
use Rattle.event_decisions.proofs.laws.decisions_make.Goals as goal

pub returns : goal.returns
returns c = decisions_make
