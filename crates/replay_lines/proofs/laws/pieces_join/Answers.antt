use Rattle.replay_lines.proofs.Pieces.{pieces_written}
use Rattle.replay_lines.proofs.laws.pieces_join.Goals as goal

pub returns : goal.returns
returns c = pieces_written
