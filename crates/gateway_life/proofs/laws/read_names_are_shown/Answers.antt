use Rattle.gateway_life.proofs.Shown.{names_shown}
use Rattle.gateway_life.proofs.laws.read_names_are_shown.Goals as goal

pub returns : goal.returns
returns c = names_shown
