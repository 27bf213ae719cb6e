-- Each row that hangs up goes Down.
use Rattle.session_core.proofs.Always.{hang_up_ends}
use Rattle.session_core.proofs.laws.hang_up_ends.Goals as goal

pub returns : goal.returns
returns c = hang_up_ends
