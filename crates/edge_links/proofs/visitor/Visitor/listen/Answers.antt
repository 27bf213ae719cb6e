use Rattle.std.proofs.Common.{◌∙◌, ap, length, take}
use Rattle.frame_grammar.specs.Found.{found}
use Rattle.frame_grammar.specs.declared.buffer.TheConstants.{CAPACITY}
use Rattle.edge_waits.specs.Lobby.{first_of, standing_of}
use Rattle.edge_links.proofs.visitor.Visitor.listen.Goals as goal

pub returns-clause-stands : goal.returns-clause-stands
returns-clause-stands c =
    let visitor = c.read.new.self in
    let kind = c.args.framer.now.kind in
    c.stands_by-stands.ensures.stands
    ∙ ap (λ said. standing_of (first_of (found kind (take CAPACITY said))) (length said)
    visitor.is_closed c.saturating_sub-waited.result) c.deref.ensures.value
    ∙ ap (λ waited. standing_of (first_of (found kind (take CAPACITY visitor.heard.items)))
    (length visitor.heard.items) visitor.is_closed waited) c.saturating_sub-waited.ensures
