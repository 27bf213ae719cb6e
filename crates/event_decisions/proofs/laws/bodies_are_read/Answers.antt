-- By the field at the front, one after another.
use Rattle.event_decisions.proofs.Bodies.{bodies_are_read}
use Rattle.event_decisions.proofs.laws.bodies_are_read.Goals as goal

pub returns : goal.returns
returns c = bodies_are_read
