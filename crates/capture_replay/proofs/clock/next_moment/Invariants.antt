use Rattle.std.proofs.Common.{◌≡◌, length}
use Rattle.capture_replay.specs.Rounds.{moments_from}
use Rattle.capture_replay.proofs.clock.next_moment.Given as goal

abbrev pub invariant-loop-line : goal.invariant-loop-line
invariant-loop-line l = moments_from l.fn.now l.fn.lines ≡ moments_from l.moment l.lines

abbrev pub decreases-loop-line : goal.decreases-loop-line
decreases-loop-line l = length l.lines
