use Rattle.wires.proofs.Kept.{reads_kept, writes_kept}
use Rattle.wires.proofs.laws.transcripts_keep_each_byte.Goals as goal

pub returns : goal.returns
returns c = record { read = reads_kept; written = writes_kept }
