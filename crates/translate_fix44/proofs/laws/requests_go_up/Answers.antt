use Rattle.translate_fix44.proofs.Go.{go_up}
use Rattle.translate_fix44.proofs.laws.requests_go_up.Goals as goal

pub returns : goal.returns
returns c = go_up
