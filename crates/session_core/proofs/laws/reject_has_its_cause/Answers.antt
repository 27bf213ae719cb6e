-- By the rows that reject.
use Rattle.session_core.proofs.Links.{rejects_well}
use Rattle.session_core.proofs.laws.reject_has_its_cause.Goals as goal

pub returns : goal.returns
returns c = rejects_well
