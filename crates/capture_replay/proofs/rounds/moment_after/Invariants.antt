use Rattle.std.proofs.Common.{◌≡◌, length}
use Rattle.capture_replay.specs.Rounds.{moment_after}
use Rattle.capture_replay.proofs.rounds.moment_after.Given as goal

abbrev pub invariant-loop-line : goal.invariant-loop-line
invariant-loop-line l = moment_after l.now l.left ≡ moment_after l.from l.life

abbrev pub decreases-loop-line : goal.decreases-loop-line
decreases-loop-line l = length l.left
