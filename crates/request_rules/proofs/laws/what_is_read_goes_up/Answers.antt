use Rattle.request_rules.proofs.GoUp.{read_go_up}
use Rattle.request_rules.proofs.laws.what_is_read_goes_up.Goals as goal

pub returns : goal.returns
returns c = read_go_up
