use Rattle.std.proofs.Common.{sym, subst, ◌∙◌}
use Rattle.message_tables.specs.Tables.{GroupTags}
use Rattle.message_tables.specs.Plain.{IsApart}
use Rattle.message_tables.specs.CodeTables.{group_of}
use Rattle.message_tables.proofs.Mapped.{group_tags_mapped, lacks_mapped, whole_mapped}
use Rattle.message_tables.proofs.OnePass.{absent_is_whole}
use Rattle.row_values.specs.CodeKinds.{kind_of}
use Rattle.first_faults.proofs.indexed.is_whole.Goals as goal

pub returns-then-is_absent : goal.returns-then-is_absent
returns-then-is_absent c = λ yes.
    absent_is_whole c.args.fields.now (group_of kind_of c.args.group.now)
    (sym (c.is_absent.ensures ∙ lacks_mapped kind_of c.args.fields.now c.args.group.now)
    ∙ c.if-is_absent.true)

pub returns-else-is_absent : goal.returns-else-is_absent
returns-else-is_absent c = λ yes.
    whole_mapped kind_of c.args.fields.now c.args.group.now (c.is_whole_between.ensures yes)

pub is_whole_between-requires-clause-apart : goal.is_whole_between-requires-clause-apart
is_whole_between-requires-clause-apart c = λ κs.
    subst (λ (tags : GroupTags).
    IsApart c.args.fields.now tags c.args.span.from c.args.span.to)
    (group_tags_mapped kind_of c.args.group.now) c.requires
