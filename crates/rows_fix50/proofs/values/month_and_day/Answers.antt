use Rattle.std.proofs.Common.{ap, ◌∙◌}
use Rattle.std.proofs.lemmas.List.{take_rest}
use Rattle.value_kinds.specs.ValueKind.{DayOfMonth, spelled}
use Rattle.rows_fix50.proofs.Dates.{date_again}
use Rattle.rows_fix50.proofs.values.month_and_day.Goals as goal

pub returns-in-Some-clause-date : goal.returns-in-Some-clause-date
returns-in-Some-clause-date c =
    date_again c.args.date.now c.in-Some.month c.day_of_month.result c.requires
    c.in-Some.ensures.text
    (c.day_of_month.ensures.text ∙ ap (spelled DayOfMonth) (take_rest c.args.date.now 6))
    c.day_of_month.ensures.bound
