use Rattle.std.proofs.Common.{◌≡◌}
use Rattle.edge_links.proofs.teller.Teller.write_at_once.Given as goal

-- as many lines were lost as before
abbrev pub invariant-loop-part : goal.invariant-loop-part
invariant-loop-part g l = l.self.lost ≡ l.fn.self.lost
