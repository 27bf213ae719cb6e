use Rattle.message_tables.proofs.Mapped.{whole_mapped}
use Rattle.row_values.specs.CodeKinds.{kind_of}
use Rattle.first_faults.proofs.faults.group_fits.Goals as goal

pub returns : goal.returns
returns c = λ yes.
    let members = c.members_fit.ensures yes in
    record {
      fits = (
        whole_mapped kind_of c.args.fields.now c.args.group.now
            (c.is_whole.ensures c.if-not-is_whole.false),
        members.all,
      );
      places = members.places;
    }
