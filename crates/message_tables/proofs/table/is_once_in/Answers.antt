use Rattle.std.proofs.Common.{refl, sym}
use Rattle.message_tables.proofs.Seen.{item_once}
use Rattle.message_tables.proofs.Loops.{any_passed, any_found, any_ended}
use Rattle.message_tables.proofs.table.is_once_in.Goals as goal

pub loop-item-init : goal.loop-item-init
loop-item-init g c = refl

pub returns-then-is_once : goal.returns-then-is_once
returns-then-is_once g c =
    sym (any_found (item_once c.args.tag) c.args.items.now c.loop-item.item-index c.item-item.result
    c.item-item.is c.loop-item-test.true c.loop-item.invariant (sym c.if-is_once.ensures))

pub loop-item-preserved : goal.loop-item-preserved
loop-item-preserved g c = any_passed
    (item_once c.args.tag) c.args.items.now c.loop-item.item-index c.item-item.result
    c.item-item.is c.loop-item-test.true c.loop-item.invariant (sym c.if-is_once.ensures)

pub returns : goal.returns
returns g c =
    sym (any_ended (item_once c.args.tag) c.args.items.now c.loop-item.item-index
    c.loop-item-test.false c.loop-item.invariant)
