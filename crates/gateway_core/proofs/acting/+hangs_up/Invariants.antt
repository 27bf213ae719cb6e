use Rattle.std.proofs.Common.{length}
use Rattle.gateway_core.proofs.acting.+hangs_up.Given as goal

abbrev pub decreases-hangs_up : goal.decreases-hangs_up
decreases-hangs_up l = length l.acts.now
