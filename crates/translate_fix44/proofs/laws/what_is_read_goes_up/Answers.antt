use Rattle.translate_fix44.proofs.Go.{read_go_up}
use Rattle.translate_fix44.proofs.laws.what_is_read_goes_up.Goals as goal

pub returns : goal.returns
returns c = read_go_up
