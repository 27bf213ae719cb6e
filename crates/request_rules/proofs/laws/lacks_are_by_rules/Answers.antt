use Rattle.request_rules.proofs.LacksUp.{lack_is}
use Rattle.request_rules.proofs.laws.lacks_are_by_rules.Goals as goal

pub returns : goal.returns
returns c = lack_is
