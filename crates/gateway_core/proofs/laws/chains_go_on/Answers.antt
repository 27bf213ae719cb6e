use Rattle.gateway_core.proofs.Grown as grown
use Rattle.gateway_core.proofs.laws.chains_go_on.Goals as goal

pub returns : goal.returns
returns c = grown.chains_go_on
