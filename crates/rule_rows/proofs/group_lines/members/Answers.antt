use Rattle.message_tables.specs.CodeTables.{own_tags}
use Rattle.message_tables.proofs.ByPlace.{no_lines}
use Rattle.rule_rows.proofs.group_lines.members.Goals as goal

pub returns-in-None : goal.returns-in-None
returns-in-None c =
    no_lines (own_tags c.args.group.now) c.args.fields.now c.in-None.ensures.place
