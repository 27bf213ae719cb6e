use Rattle.std.proofs.Common.{length}
use Rattle.gateway_main.proofs.options.+take.Given as goal

abbrev pub decreases-take : goal.decreases-take
decreases-take l = length l.words.now
