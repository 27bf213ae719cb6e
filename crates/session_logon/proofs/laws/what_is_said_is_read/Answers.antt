-- Message by message.
use Rattle.session_logon.proofs.ReadBack.{said_back}
use Rattle.session_logon.proofs.laws.what_is_said_is_read.Goals as goal

pub returns : goal.returns
returns c = said_back
