-- By the rows of such a message.
use Rattle.session_core.proofs.Links.{taken_or_ends}
use Rattle.session_core.proofs.laws.application_gets_it_or_the_session_ends.Goals as goal

pub returns : goal.returns
returns c = taken_or_ends
