use Rattle.std.proofs.Common.{◌≡◌, ◌≤◌, List, ℕ, length, drop}
use Rattle.frame_grammar.specs.Found.{Found, expect_sum}
use Rattle.frame_grammar.proofs.scan.expect_sum.Given as goal

abbrev pub invariant-loop-place : goal.invariant-loop-place
invariant-loop-place l = record {
  within : l.place ≤ length l.bytes;
  so_far : (go : List ℕ → Found) → expect_sum l.digits go l.bytes
      ≡ expect_sum (drop l.place l.digits) go (drop l.place l.bytes);
}
