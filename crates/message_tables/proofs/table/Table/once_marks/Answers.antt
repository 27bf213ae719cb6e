use Rattle.message_tables.proofs.TagMarks.{once_marked}
use Rattle.message_tables.proofs.table.Table.once_marks.Goals as goal

pub returns : goal.returns
returns g c =
    once_marked c.args.self.now c.mark_rows.new.marks c.mark_items.new.marks c.mark_rows.ensures
    c.mark_items.ensures
