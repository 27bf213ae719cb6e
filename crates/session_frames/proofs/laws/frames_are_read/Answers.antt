-- By the fields of the header, one after another.
use Rattle.session_frames.proofs.Shown.{frames_are_read}
use Rattle.session_frames.proofs.laws.frames_are_read.Goals as goal

pub returns : goal.returns
returns c = frames_are_read
