use Rattle.std.proofs.Common.{◌∙◌, sym, ap, length}
use Rattle.wires.specs.Script.{next_of}
use Rattle.wires.specs.Play.{left_of}
use Rattle.wires.proofs.Played.{next_at}
use Rattle.wires.proofs.script.Play.give.Goals as goal

pub returns-in-Some-clause-came : goal.returns-in-Some-clause-came
returns-in-Some-clause-came c =
    let found = c.in-Some.ensures.lookup in
    let room = length c.args.buf.now in
    let next = c.self.inside.next in
    let given = c.self.inside.given in
    c.give_item.ensures.came ∙ sym (next_at c.deref.result.now next given
    c.args.within room c.in-Some.item.now found.0 found.1)
    ∙ ap (λ items. next_of c.args.within room (left_of items next given)) c.deref.ensures.value
    ∙ ap (next_of c.args.within room) c.self.view_is
