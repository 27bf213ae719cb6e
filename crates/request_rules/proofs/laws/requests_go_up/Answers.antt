use Rattle.request_rules.proofs.GoUp.{go_up}
use Rattle.request_rules.proofs.laws.requests_go_up.Goals as goal

pub returns : goal.returns
returns c = go_up
