use Rattle.std.proofs.Common.{ap, ◌∙◌}
use Rattle.message_tables.specs.FirstFault.{allowed}
use Rattle.message_tables.specs.CodeTables.{need_of, row_of}
use Rattle.first_faults.proofs.FirstFaults.{with_row, with_none}
use Rattle.first_faults.proofs.faults.mark.Goals as goal

pub returns-in-Some : goal.returns-in-Some
returns-in-Some c =
    let e = c.allows.ensures ∙ ap (allowed (need_of c.in-Some.row.now.need)) c.judge.ensures in
    (λ i. (c.args.tag, e i))
    ∙ with_row c.args.table.now c.args.fields.now c.args.tag c.args.value.now
    (row_of (λ k. k) c.in-Some.row.now) c.in-Some.ensures

pub returns-in-None : goal.returns-in-None
returns-in-None c =
    (λ i. (c.args.tag, c.without_row.ensures i))
    ∙ with_none c.args.table.now c.args.fields.now c.args.tag c.args.value.now
    c.in-None.ensures
