-- One frame after another.
use Rattle.life_laws.proofs.InOrder.{in_order}
use Rattle.life_laws.proofs.laws.forms_are_taken_in_order.Goals as goal

pub returns : goal.returns
returns c = in_order
