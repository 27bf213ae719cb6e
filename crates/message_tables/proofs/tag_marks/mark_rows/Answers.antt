use Rattle.message_tables.proofs.TagMarks.{next_row}
use Rattle.message_tables.proofs.tag_marks.mark_rows.Goals as goal

pub loop-row-preserved : goal.loop-row-preserved
loop-row-preserved g c =
    next_row c.args.rows.now c.loop-row.row-index c.row-item.result c.args.marks.now
    c.loop-row.marks c.mark.new.marks c.row-item.is c.loop-row-test.true c.loop-row.invariant
    c.mark.ensures
