use Rattle.std.proofs.Common.{length}
use Rattle.capture_text.proofs.Steps.{Between}
use Rattle.capture_text.proofs.reading.read_lives.Given as goal

abbrev pub invariant-loop-line : goal.invariant-loop-line
invariant-loop-line l = record {
  between : Between l.fn.text l.lives l.rest l.number;
}

abbrev pub decreases-loop-line : goal.decreases-loop-line
decreases-loop-line l = length l.rest
