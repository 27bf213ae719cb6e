use Rattle.std.proofs.Common.{◌≡◌, ◌*◌, ◌%◌, ◌≤◌, ℕ, take, get_or}
use Rattle.std.specs.Prelude.{sum}
use Rattle.frame_grammar.proofs.buffer.add_sums.Given as goal

abbrev pub invariant-loop-block : goal.invariant-loop-block
invariant-loop-block l =
    (k : ℕ) → k ≤ l.block → get_or l.sums k 0 ≡ sum (take (256 * k) l.bytes) % 256
