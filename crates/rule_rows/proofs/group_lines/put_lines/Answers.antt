use Rattle.message_tables.specs.CodeTables.{table_of}
use Rattle.row_values.specs.CodeKinds.{kind_of}
use Rattle.rule_rows.proofs.LinesSaid.{none_said, nothing_put}
use Rattle.rule_rows.proofs.group_lines.put_lines.Goals as goal

pub returns-in-None-clause-done : goal.returns-in-None-clause-done
returns-in-None-clause-done c =
    let items = (table_of kind_of c.args.table.now).items in
    nothing_put c.args.fields.now c.args.count items c.args.out.now.items
    (none_said c.args.fields.now c.args.count items c.in-None.ensures.place)
