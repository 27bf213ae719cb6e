use Rattle.std.proofs.Common.{ap, ◌∙◌}
use Rattle.std.specs.Prelude.{not}
use Rattle.message_tables.specs.CodeTables.{row_of}
use Rattle.message_tables.proofs.OnePass.{fits_of_none}
use Rattle.row_values.specs.Kinds.{judge}
use Rattle.row_values.specs.CodeKinds.{kind_of}
use Rattle.first_faults.proofs.faults.row_fits.Goals as goal

pub returns-in-None-clause-fits : goal.returns-in-None-clause-fits
returns-in-None-clause-fits c =
    ap not c.is_needed.ensures
    ∙ fits_of_none judge c.args.fields.now (row_of kind_of c.args.row.now) c.in-None.ensures.none
