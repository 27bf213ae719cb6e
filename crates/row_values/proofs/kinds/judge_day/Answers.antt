use Rattle.std.proofs.Common.{sym, ap, ◌∙◌}
use Rattle.value_kinds.specs.ValueKind.{DayOfMonth, spelled, spelling}
use Rattle.message_tables.specs.FirstFault.{mark_of}
use Rattle.row_values.specs.Kinds.{in_month, verdict_of}
use Rattle.row_values.proofs.Marks.{day_marked, no_day}
use Rattle.row_values.proofs.kinds.judge_day.Goals as goal

pub returns-in-Some-day_of_month : goal.returns-in-Some-day_of_month
unfolding spelled
returns-in-Some-day_of_month c =
    let s = spelling DayOfMonth c.args.bytes.now in
    c.mark_in.ensures
    ∙ day_marked s c.in-Some.month c.in-Some-day_of_month.day c.in-Some-day_of_month.ensures.text
    ∙ ap (λ month. mark_of (in_month month (verdict_of s))) (sym c.in-Some.is)

pub returns-in-None-day_of_month : goal.returns-in-None-day_of_month
unfolding spelled
returns-in-None-day_of_month c =
    let s = spelling DayOfMonth c.args.bytes.now in
    c.judge_value.ensures
    ∙ no_day s c.in-Some.month c.in-None-day_of_month.ensures.text
    ∙ ap (λ month. mark_of (in_month month (verdict_of s))) (sym c.in-Some.is)
