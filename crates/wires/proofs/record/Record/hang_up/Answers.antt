use Rattle.std.proofs.Common.{◌≡◌, ◌∙◌, ◌++◌, ◌∷◌, [], true, ap}
use Rattle.wires.specs.Wire.{is_within, HangUp}
use Rattle.wires.specs.Record.{calls_of}
use Rattle.wires.proofs.Noting.{marked_last, connections_stay}
use Rattle.wires.proofs.record.Record.hang_up.Goals as goal

inside : (c : goal.After-self-1) → is_within (calls_of c.self.inside.calls.items) ≡ true
inside c = ap is_within c.self.view_is ∙ c.requires

pub invariant_of-self : goal.invariant_of-self
invariant_of-self c = connections_stay c.self.inside.calls.items c.self.inside.calls.len
    c.len-last.result c.index_mut.result.now c.self.inside.calls.ok.0 c.len-last.ensures (inside c)
    c.index_mut.ensures.value c.self.inside.connections.items c.self.invariant

pub returns-then-not-is_empty : goal.returns-then-not-is_empty
returns-then-not-is_empty c = marked_last c.self.inside.calls.items c.self.inside.calls.len
    c.len-last.result c.index_mut.result.now c.self.inside.calls.ok.0 c.len-last.ensures
    (inside c) c.index_mut.ensures.value ∙ ap (λ calls. calls ++ HangUp ∷ []) c.self.view_is
