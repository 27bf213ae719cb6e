-- Each row has its acts in this order.
use Rattle.session_core.proofs.Always.{acts_in_order}
use Rattle.session_core.proofs.laws.acts_in_order.Goals as goal

pub returns : goal.returns
returns c = acts_in_order
