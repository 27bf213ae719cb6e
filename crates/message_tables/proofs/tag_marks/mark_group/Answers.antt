use Rattle.message_tables.proofs.TagMarks.{lines_marked}
use Rattle.message_tables.proofs.tag_marks.mark_group.Goals as goal

pub returns-in-Lines : goal.returns-in-Lines
returns-in-Lines g c =
    rw c.in-Lines.is
    (lines_marked c.in-Lines.group c.args.marks.now c.mark.new.marks c.mark_rows.new.marks
    c.mark_tags.new.marks c.mark.ensures c.mark_rows.ensures c.mark_tags.ensures)
