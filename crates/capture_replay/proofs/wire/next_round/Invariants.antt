use Rattle.std.proofs.Common.{◌≡◌, All, filter, length}
use Rattle.capture_text.specs.Line.{IsBounded}
use Rattle.capture_replay.specs.Rounds.{is_round}
use Rattle.capture_replay.proofs.wire.next_round.Given as goal

abbrev pub invariant-loop-line : goal.invariant-loop-line
invariant-loop-line l = record {
  rounds : filter is_round l.fn.lines ≡ filter is_round l.lines;
  bounded : All IsBounded l.fn.lines → All IsBounded l.lines;
}

abbrev pub decreases-loop-line : goal.decreases-loop-line
decreases-loop-line l = length l.lines
