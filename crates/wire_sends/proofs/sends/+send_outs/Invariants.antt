use Rattle.std.proofs.Common.{length}
use Rattle.wire_sends.proofs.sends.+send_outs.Given as goal

abbrev pub decreases-send_outs : goal.decreases-send_outs
decreases-send_outs g l = length l.outs.now
