-- Only the rows of a Logon that is accepted end in Active.
use Rattle.session_core.proofs.Links.{is_active_by}
use Rattle.session_core.proofs.laws.active_by_a_good_logon.Goals as goal

pub returns : goal.returns
returns c = is_active_by
