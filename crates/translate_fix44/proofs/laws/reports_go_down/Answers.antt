use Rattle.translate_fix44.proofs.Go.{go_down}
use Rattle.translate_fix44.proofs.laws.reports_go_down.Goals as goal

pub returns : goal.returns
returns c = go_down
