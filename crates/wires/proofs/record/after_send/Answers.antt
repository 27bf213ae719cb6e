use Rattle.wires.specs.Wire.{add_written}
use Rattle.wires.proofs.Noting.{last_changed}
use Rattle.wires.proofs.record.after_send.Goals as goal

pub returns : goal.returns
returns c = last_changed (add_written c.args.wrote.now)
    c.args.all.items c.args.all.len c.len-last.result
    c.index_mut.result.now c.add_written.new.self c.args.all.ok.0 c.len-last.ensures
    c.if-is_empty.ensures c.index_mut.ensures.value c.in_ok-add_written.ensures
