use Rattle.std.proofs.Common.{◌≤◌, [], length}
use Rattle.capture_text.specs.Life.{AreOpen, behind}
use Rattle.capture_text.proofs.Steps.{Passed}
use Rattle.capture_text.proofs.life.read_life.Given as goal

abbrev pub invariant-loop-line : goal.invariant-loop-line
invariant-loop-line l = record {
  passed : Passed l.fn.text l.fn.before l.life l.rest l.number;
  sides : AreOpen l.sides (behind [] l.life);
  shorter : length l.rest ≤ length l.fn.text;
}

abbrev pub decreases-loop-line : goal.decreases-loop-line
decreases-loop-line l = length l.rest
