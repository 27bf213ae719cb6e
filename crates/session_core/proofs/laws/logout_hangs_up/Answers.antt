-- Each row that says Logout hangs up next.
use Rattle.session_core.proofs.Always.{logout_hangs_up}
use Rattle.session_core.proofs.laws.logout_hangs_up.Goals as goal

pub returns : goal.returns
returns c = logout_hangs_up
