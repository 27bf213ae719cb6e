-- No row of a first message asks while a request is open.
use Rattle.session_core.proofs.Always.{one_request}
use Rattle.session_core.proofs.laws.one_request_at_a_time.Goals as goal

pub returns : goal.returns
returns c = one_request
