use Rattle.message_tables.proofs.TagMarks.{next_item, once}
use Rattle.message_tables.proofs.tag_marks.mark_items.Goals as goal

pub loop-item-preserved : goal.loop-item-preserved
loop-item-preserved g c =
    next_item once c.args.items.now c.loop-item.item-index c.item-item.result c.args.marks.now
    c.loop-item.marks c.mark_item.new.marks c.item-item.is c.loop-item-test.true
    c.loop-item.invariant c.mark_item.ensures
