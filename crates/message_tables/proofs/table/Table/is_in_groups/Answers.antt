use Rattle.std.proofs.Common.{sym, ◌∙◌, refl}
use Rattle.message_tables.proofs.Seen.{item_group, groups-table}
use Rattle.message_tables.proofs.Loops.{any_passed, any_found, any_ended}
use Rattle.message_tables.proofs.table.Table.is_in_groups.Goals as goal

pub loop-item-init : goal.loop-item-init
loop-item-init g c = refl

pub returns-then-is_in_group : goal.returns-then-is_in_group
returns-then-is_in_group g c =
    sym (groups-table c.args.tag c.args.self.now
    ∙ any_found
    (item_group c.args.tag) c.args.self.now.items.now c.loop-item.item-index c.item-item.result
    c.item-item.is c.loop-item-test.true c.loop-item.invariant (sym c.if-is_in_group.ensures))

pub loop-item-preserved : goal.loop-item-preserved
loop-item-preserved g c = any_passed
    (item_group c.args.tag) c.args.self.now.items.now c.loop-item.item-index c.item-item.result
    c.item-item.is c.loop-item-test.true c.loop-item.invariant (sym c.if-is_in_group.ensures)

pub returns : goal.returns
returns g c =
    sym (groups-table c.args.tag c.args.self.now
    ∙ any_ended (item_group c.args.tag) c.args.self.now.items.now
    c.loop-item.item-index c.loop-item-test.false c.loop-item.invariant)
