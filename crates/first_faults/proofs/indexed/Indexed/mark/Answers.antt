use Rattle.std.proofs.Common.{ap, ◌∙◌}
use Rattle.message_tables.specs.Tables.{Table}
use Rattle.message_tables.specs.FirstFault.{allowed, marked}
use Rattle.message_tables.specs.CodeTables.{need_of, row_of}
use Rattle.row_values.specs.Kinds.{Kind, judge}
use Rattle.first_faults.proofs.FirstFaults.{with_none, with_row}
use Rattle.first_faults.proofs.indexed.Indexed.mark.Goals as goal

pub returns-in-Own : goal.returns-in-Own
returns-in-Own c =
    let e = c.allows.ensures ∙ ap (allowed (need_of c.in-Own.row.now.need)) c.judge.ensures in
    (λ i. (c.args.tag, e i))
    ∙ with_row c.self.inside.table.now c.args.fields.now c.args.tag c.args.value.now
    (row_of (λ k. k) c.in-Own.row.now) c.in-Own.ensures.0
    ∙ ap (λ (t : Table Kind). marked judge t c.args.fields.now (c.args.tag, c.args.value.now))
    c.self.view_is

pub returns-in-Member : goal.returns-in-Member
returns-in-Member c =
    let e = c.allows-in-Member.ensures
    ∙ ap (allowed (need_of c.in-Member.row.now.need)) c.judge-in-Member.ensures in
    (λ i. (c.args.tag, e i))
    ∙ with_row c.self.inside.table.now c.args.fields.now c.args.tag c.args.value.now
    (row_of (λ k. k) c.in-Member.row.now) c.in-Member.ensures.0
    ∙ ap (λ (t : Table Kind). marked judge t c.args.fields.now (c.args.tag, c.args.value.now))
    c.self.view_is

pub returns-in-Passed : goal.returns-in-Passed
returns-in-Passed c =
    (λ i. (c.args.tag, c.without_row.ensures i))
    ∙ with_none c.self.inside.table.now c.args.fields.now c.args.tag c.args.value.now
    c.in-Passed.ensures.0
    ∙ ap (λ (t : Table Kind). marked judge t c.args.fields.now (c.args.tag, c.args.value.now))
    c.self.view_is

pub returns-in-Absent : goal.returns-in-Absent
returns-in-Absent c =
    c.mark.ensures
    ∙ ap (λ (t : Table Kind). marked judge t c.args.fields.now (c.args.tag, c.args.value.now))
    c.self.view_is
