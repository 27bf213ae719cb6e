use Rattle.std.proofs.Common.{Err, sym, ap, ◌∙◌}
use Rattle.first_faults.proofs.Given.{refused}
use Rattle.first_faults.proofs.faults.good_fields_by.Goals as goal

pub returns-in-Some-first_fault : goal.returns-in-Some-first_fault
returns-in-Some-first_fault c =
    refused c.args.table.now c.args.split.now.fields c.args.split.now.fault
    c.in-Some-first_fault.fault c.in-None.is c.in-Some-first_fault.ensures
    ∙ ap Err (sym c.of_table.ensures)
