use Rattle.std.proofs.Common.{ap, ◌∙◌}
use Rattle.std.specs.Prelude.{not}
use Rattle.message_tables.specs.CodeTables.{row_of}
use Rattle.row_values.specs.CodeKinds.{kind_of}
use Rattle.first_faults.proofs.ByTags.{said_found, said_not_found}
use Rattle.first_faults.proofs.indexed.is_said.Goals as goal

pub returns-in-Some : goal.returns-in-Some
returns-in-Some c =
    said_found c.args.fields.now (row_of kind_of c.args.row.now) _ c.in-Some.ensures.place

pub returns-in-None : goal.returns-in-None
returns-in-None c =
    ap not c.is_needed.ensures
    ∙ said_not_found c.args.fields.now (row_of kind_of c.args.row.now) c.in-None.ensures.place
