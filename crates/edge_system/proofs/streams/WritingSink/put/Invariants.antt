use Rattle.std.proofs.Common.{◌≡◌, ℕ, ◌≤◌, length, take, drop}
use Rattle.std.specs.Io.KnownBytes.{Appends}
use Rattle.edge_system.proofs.streams.WritingSink.put.Given as goal

-- the first n bytes of the piece were written
abbrev pub invariant-loop-rest : goal.invariant-loop-rest
invariant-loop-rest g l = record {
  faults : l.self.faults ≡ l.fn.self.faults;
  written : (n : ℕ) × (n ≤ length l.fn.piece) × (l.rest ≡ drop n l.fn.piece) × Appends
      (g.W.Write.contents l.fn.self.inner) (g.W.Write.contents l.self.inner) (take n l.fn.piece);
}

abbrev pub decreases-loop-rest : goal.decreases-loop-rest
decreases-loop-rest g l = length l.rest
