-- The header is that of the frame, and what stands behind it is the content.
use Rattle.life_laws.proofs.Received.{sent_is_read}
use Rattle.life_laws.proofs.laws.what_is_sent_is_read.Goals as goal

pub returns : goal.returns
returns c = sent_is_read
