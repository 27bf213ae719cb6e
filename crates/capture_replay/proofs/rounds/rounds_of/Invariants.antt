use Rattle.std.proofs.Common.{◌≡◌, ◌+◌, ◌≤◌, filter, length}
use Rattle.capture_replay.specs.Rounds.{is_round}
use Rattle.capture_replay.proofs.rounds.rounds_of.Given as goal

abbrev pub invariant-loop-line : goal.invariant-loop-line
invariant-loop-line l = record {
  few : l.rounds + length l.left ≤ l.count;
  so_far : l.rounds + length (filter is_round l.left) ≡ length (filter is_round l.life);
}

abbrev pub decreases-loop-line : goal.decreases-loop-line
decreases-loop-line l = length l.left
