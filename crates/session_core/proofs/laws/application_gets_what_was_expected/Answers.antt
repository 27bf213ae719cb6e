-- No other row takes such a message and does nothing else.
use Rattle.session_core.proofs.Always.{was_expected}
use Rattle.session_core.proofs.laws.application_gets_what_was_expected.Goals as goal

pub returns : goal.returns
returns c = was_expected
