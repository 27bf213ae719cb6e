-- Each row that takes counts the message.
use Rattle.session_core.proofs.Always.{taken_counts}
use Rattle.session_core.proofs.laws.taken_message_counts.Goals as goal

pub returns : goal.returns
returns c = taken_counts
