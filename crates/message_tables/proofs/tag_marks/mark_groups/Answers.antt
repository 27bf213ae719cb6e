use Rattle.message_tables.proofs.TagMarks.{grouped_at, next_item}
use Rattle.message_tables.proofs.tag_marks.mark_groups.Goals as goal

pub loop-item-preserved : goal.loop-item-preserved
loop-item-preserved g c =
    next_item grouped_at c.args.items.now c.loop-item.item-index c.item-item.result
    c.args.marks.now c.loop-item.marks c.mark_group.new.marks c.item-item.is
    c.loop-item-test.true c.loop-item.invariant c.mark_group.ensures
