use Rattle.std.proofs.Common.{◌∙◌}
use Rattle.first_faults.proofs.FirstFaults.{by_table}
use Rattle.first_faults.proofs.faults.first_fault.Goals as goal

pub returns : goal.returns
returns c =
    c.first_fault.ensures
    ∙ by_table c.args.table.now c.args.fields.now c.found.result c.found.ensures
