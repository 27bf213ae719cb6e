use Rattle.std.proofs.Common.{◌∙◌}
use Rattle.message_tables.specs.CodeTables.{row_of}
use Rattle.message_tables.proofs.OnePass.{fits_of_some, member_of_some, not_past}
use Rattle.row_values.specs.Kinds.{judge}
use Rattle.row_values.specs.CodeKinds.{kind_of}
use Rattle.first_faults.proofs.faults.first_fits.Goals as goal

pub returns-in-None-clause-row : goal.returns-in-None-clause-row
returns-in-None-clause-row c =
    absurd (not_past c.args.fields.now c.args.row.now.tag c.in_ok-place.place
    c.in_ok-place.ensures.place c.in-None.ensures)

pub returns-in-None-clause-member : goal.returns-in-None-clause-member
returns-in-None-clause-member c =
    absurd (not_past c.args.fields.now c.args.row.now.tag c.in_ok-place.place
    c.in_ok-place.ensures.place c.in-None.ensures)

pub returns-in-Some-clause-row : goal.returns-in-Some-clause-row
returns-in-Some-clause-row c =
    c.value_fits.ensures
    ∙ fits_of_some judge c.args.fields.now (row_of kind_of c.args.row.now) c.in_ok-place.place
    _ c.in_ok-place.ensures.place c.in-Some.ensures

pub returns-in-Some-clause-member : goal.returns-in-Some-clause-member
returns-in-Some-clause-member c =
    c.value_fits.ensures
    ∙ member_of_some judge c.args.fields.now (row_of kind_of c.args.row.now) c.in_ok-place.place
    _ c.in_ok-place.ensures.place c.in-Some.ensures
