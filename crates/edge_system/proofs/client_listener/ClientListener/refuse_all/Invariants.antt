use Rattle.std.proofs.Common.{◌≡◌}
use Rattle.edge_system.proofs.client_listener.ClientListener.refuse_all.Given as goal

-- the connection that there is stays
abbrev pub invariant-loop : goal.invariant-loop
invariant-loop g l = l.self.link ≡ l.fn.self.link
