-- By the rows of the table, and by the next number of whoever speaks.
use Rattle.event_decisions.proofs.Continues.{decisions_continue}
use Rattle.event_decisions.proofs.laws.decisions_continue.Goals as goal

pub returns : goal.returns
returns c = decisions_continue
