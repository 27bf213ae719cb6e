-- By the rows that send again.
use Rattle.session_core.proofs.Links.{resends_given}
use Rattle.session_core.proofs.laws.resent_was_given_before.Goals as goal

pub returns : goal.returns
returns c = resends_given
