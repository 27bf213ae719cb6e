use Rattle.std.proofs.Common.{sym, ap, ◌∙◌}
use Rattle.std.specs.Option.{option_map}
use Rattle.value_kinds.specs.ValueKind.{DayOfMonth, spelled, spelling, two_digit_text}
use Rattle.row_values.proofs.Days.{day_in_month, no_day, said_day}
use Rattle.row_values.proofs.maturity.month_day.Goals as goal

pub returns-in-Some-day_of_month : goal.returns-in-Some-day_of_month
unfolding spelled
returns-in-Some-day_of_month c =
    let s = spelling DayOfMonth c.in-Some.bytes.now in
    ap (option_map two_digit_text) c.day_in.ensures
    ∙ day_in_month s c.args.month.now c.in-Some-day_of_month.day c.in-Some-day_of_month.ensures.text
    ∙ sym (said_day c.args.fields.now c.in-Some.bytes.now c.args.month.now
    c.in-Some.ensures c.requires.month)

pub returns-in-None-day_of_month : goal.returns-in-None-day_of_month
unfolding spelled
returns-in-None-day_of_month c =
    let s = spelling DayOfMonth c.in-Some.bytes.now in
    no_day s c.args.month.now c.in-None-day_of_month.ensures.text
    ∙ sym (said_day c.args.fields.now c.in-Some.bytes.now c.args.month.now
    c.in-Some.ensures c.requires.month)
