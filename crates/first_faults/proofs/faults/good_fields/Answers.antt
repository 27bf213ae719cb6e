use Rattle.std.proofs.Common.{Err, sym, ap, ◌∙◌}
use Rattle.message_tables.specs.CodeTables.{table_of}
use Rattle.row_values.specs.CodeKinds.{kind_of}
use Rattle.first_faults.proofs.Given.{refused}
use Rattle.first_faults.proofs.faults.good_fields.Goals as goal

pub returns-in-Some-first_fault : goal.returns-in-Some-first_fault
returns-in-Some-first_fault c =
    let table = table_of kind_of c.args.table.now in
    refused table c.args.split.now.fields c.args.split.now.fault c.in-Some-first_fault.fault
    c.in-None.is
    c.in-Some-first_fault.ensures
    ∙ ap Err (sym c.of_table.ensures)
