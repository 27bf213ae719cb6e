use Rattle.std.proofs.Common.{◌∙◌, sym, ap, take}
use Rattle.frame_grammar.specs.Found.{found}
use Rattle.frame_grammar.specs.declared.buffer.TheConstants.{CAPACITY}
use Rattle.edge_waits.specs.Lobby.{first_of}
use Rattle.edge_system.proofs.Places.{holds_by_logon}
use Rattle.edge_system.proofs.client_listener.ClientListener.hear_visitor.Goals as goal

pub returns-in-Holds-clause-ready : goal.returns-in-Holds-clause-ready
returns-in-Holds-clause-ready g c =
    ap (λ kind. first_of (found kind (take CAPACITY c.listen.new.self.heard.items)))
    (sym c.args.self.now.of_client)
    ∙ holds_by_logon _ _ _ _ (sym c.in-Ok.ensures.stands ∙ c.in-Holds.is)
