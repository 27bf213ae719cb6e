use Rattle.std.proofs.Common.{length}
use Rattle.gateway_core.proofs.acting.+repeat_of.Given as goal

abbrev pub decreases-repeat_of : goal.decreases-repeat_of
decreases-repeat_of l = length l.acts.now
