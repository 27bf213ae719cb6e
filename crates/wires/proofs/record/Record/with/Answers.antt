use Rattle.std.proofs.Common.{◌∙◌, ◌++◌, ◌∷◌, [], ap}
use Rattle.wires.specs.Record.{calls_of, call_of}
use Rattle.wires.proofs.Noting.{kept_more, connections_more}
use Rattle.wires.proofs.record.Record.with.Goals as goal

pub invariant_of-result : goal.invariant_of-result
invariant_of-result c = connections_more c.self.inside.calls.items c.push.new.self.items c.args.call
    c.self.inside.connections.items c.in_ok-connections.connections.items
    c.self.invariant c.in_ok-connections.ensures c.in_ok-push.ensures.items

pub returns : goal.returns
returns c = ap calls_of c.in_ok-push.ensures.items ∙ kept_more c.self.inside.calls.items c.args.call
    ∙ ap (λ calls. calls ++ call_of c.args.call ∷ []) c.self.view_is
