-- No row that skips moves the expected number.
use Rattle.session_core.proofs.Always.{only_taken_counts}
use Rattle.session_core.proofs.laws.only_a_taken_message_counts.Goals as goal

pub returns : goal.returns
returns c = only_taken_counts
