use Rattle.std.proofs.Common.{sym}
use Rattle.message_tables.specs.CodeTables.{group_of, table_of}
use Rattle.row_values.specs.CodeKinds.{kind_of}
use Rattle.rule_rows.proofs.LinesSaid.{absent_said, found_put, group_written_by, nothing_put}
use Rattle.rule_rows.proofs.group_lines.put_found.Goals as goal

pub returns-in-None-clause-done : goal.returns-in-None-clause-done
returns-in-None-clause-done c =
    let items = (table_of kind_of c.args.table.now).items in
    nothing_put c.args.fields.now c.args.count items c.args.out.now.items
    (absent_said c.args.fields.now c.args.count items c.in-None.ensures)

pub put_group-requires : goal.put_group-requires
put_group-requires c =
    group_written_by c.args.count (table_of kind_of c.args.table.now).items c.in-Some.group.now
    c.requires (sym c.in-Some.ensures)

pub returns-in-Some-clause-done : goal.returns-in-Some-clause-done
returns-in-Some-clause-done c =
    found_put c.put_group.result c.args.fields.now c.args.count
    (table_of kind_of c.args.table.now).items (group_of kind_of c.in-Some.group.now)
    c.args.out.now.items c.put_group.new.out.items c.in-Some.ensures c.put_group.ensures.done
