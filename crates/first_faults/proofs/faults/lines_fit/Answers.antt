use Rattle.std.proofs.Common.{sym, ◌∙◌}
use Rattle.message_tables.specs.Tables.{tags_in}
use Rattle.message_tables.specs.CodeTables.{group_of}
use Rattle.message_tables.proofs.Mapped.{lacks_mapped}
use Rattle.message_tables.proofs.OnePass.{absent_fits, lacking_group, lacking_rows}
use Rattle.row_values.specs.CodeKinds.{kind_of}
use Rattle.row_values.specs.Kinds.{judge}
use Rattle.first_faults.proofs.faults.lines_fit.Goals as goal

pub returns-then-is_absent : goal.returns-then-is_absent
returns-then-is_absent c = λ yes.
    let fields = c.args.fields.now in
    let group = group_of kind_of c.args.group.now in
    let absent = sym (c.is_absent.ensures ∙ lacks_mapped kind_of fields c.args.group.now)
    ∙ c.if-is_absent.true in
    record {
      fits = absent_fits fields group absent judge;
      places = sym (lacking_rows fields group.rows c.args.rowed.now
          (lacking_group fields (tags_in group) absent));
    }
