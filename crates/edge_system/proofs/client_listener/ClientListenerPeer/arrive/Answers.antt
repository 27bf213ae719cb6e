use Rattle.std.proofs.Common.{subst}
use Rattle.edge_links.specs.Contact.{Dealings}
use Rattle.edge_system.specs.Tries.{MayCome}
use Rattle.edge_system.proofs.client_listener.ClientListenerPeer.arrive.Goals as goal

pub returns-in-None-clause-over : goal.returns-in-None-clause-over
returns-in-None-clause-over g c =
    λ opened. subst (λ (dealings : Dealings). MayCome dealings) c.is_gone.ensures
    (c.open.ensures.over opened)
