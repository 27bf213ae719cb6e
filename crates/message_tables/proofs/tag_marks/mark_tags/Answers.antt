use Rattle.message_tables.proofs.TagMarks.{next_tag}
use Rattle.message_tables.proofs.tag_marks.mark_tags.Goals as goal

pub loop-tag-preserved : goal.loop-tag-preserved
loop-tag-preserved c =
    next_tag c.args.tags.now c.loop-tag.tag-index _ c.args.marks.now c.loop-tag.marks
    c.mark.new.marks c.loop-tag-test.true c.loop-tag.invariant c.mark.ensures
