use Rattle.message_tables.proofs.TagMarks.{groups_marked}
use Rattle.message_tables.proofs.table.Table.group_marks.Goals as goal

pub returns : goal.returns
returns g c = groups_marked c.args.self.now c.mark_groups.new.marks c.mark_groups.ensures
