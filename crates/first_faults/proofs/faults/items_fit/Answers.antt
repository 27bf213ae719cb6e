use Rattle.std.proofs.lemmas.List.{get_or_default}
use Rattle.first_faults.proofs.OnePass.{next_item}
use Rattle.first_faults.proofs.faults.items_fit.Goals as goal

pub loop-item-preserved : goal.loop-item-preserved
loop-item-preserved c =
    next_item c.args.fields.now c.args.rowed.now c.loop-item.rowed c.item_fits.new.rowed
    c.args.items.now c.loop-item.item-index _
    (get_or_default c.args.items.now c.loop-item.item-index _ _ c.loop-item-test.true)
    c.loop-item-test.true
    c.loop-item.invariant (c.item_fits.ensures c.if-not-item_fits.false)
