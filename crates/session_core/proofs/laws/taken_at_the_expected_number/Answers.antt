-- A message is taken at the expected number, by the rows that take.
use Rattle.session_core.proofs.Always.{takes_expected}
use Rattle.session_core.proofs.laws.taken_at_the_expected_number.Goals as goal

pub returns : goal.returns
returns c = takes_expected
