-- By its two fields.
use Rattle.session_logon.proofs.ReadBack.{gap_back}
use Rattle.session_logon.proofs.laws.gap_fill_is_read.Goals as goal

pub returns : goal.returns
returns c = gap_back
