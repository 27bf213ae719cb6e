-- The row of a message without a connection.
use Rattle.session_core.proofs.Always.{skips}
use Rattle.session_core.proofs.laws.nothing_without_a_connection.Goals as goal

pub returns : goal.returns
returns c = skips
