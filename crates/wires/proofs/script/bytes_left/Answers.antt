use Rattle.std.proofs.Common.{◌∙◌, sym}
use Rattle.wires.proofs.Played.{ahead_at}
use Rattle.wires.proofs.script.bytes_left.Goals as goal

pub returns-in-Some-clause-count : goal.returns-in-Some-clause-count
returns-in-Some-clause-count c =
    let found = c.in-Some.ensures.lookup in
    c.item_left.ensures.count ∙ sym (ahead_at
    c.args.items.now c.args.next c.args.given c.in-Some.item.now found.0 found.1)
