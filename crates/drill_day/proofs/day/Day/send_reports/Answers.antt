use Rattle.drill_day.specs.declared.order.OrderKind.TheVariants.{Filled, Busted, Corrected}
use Rattle.drill_day.proofs.Days.{reports_are, reports_two, reports_three}
use Rattle.drill_day.proofs.day.Day.send_reports.Goals as goal

pub returns-in_ok-send_report-in-Filled-2 : goal.returns-in_ok-send_report-in-Filled-2
returns-in_ok-send_report-in-Filled-2 c =
    reports_are _ _ Filled _ _ c.in-Filled.is
    (reports_two c.args.number c.args.order.now _ _ _ _ _ _ _ c.accepted.ensures c.filled.ensures
    c.in_ok-send_report-in-Filled.ensures c.in_ok-send_report-in-Filled-2.ensures)

pub returns-in_ok-send_report-in-Busted-3 : goal.returns-in_ok-send_report-in-Busted-3
returns-in_ok-send_report-in-Busted-3 c =
    reports_are _ _ Busted _ _ c.in-Busted.is
    (reports_three c.args.number c.args.order.now _ _ _ _ _ _ _ _ _ _ c.accepted-in-Busted.ensures
    c.half_filled.ensures c.busted.ensures c.in_ok-send_report-in-Busted.ensures
    c.in_ok-send_report-in-Busted-2.ensures c.in_ok-send_report-in-Busted-3.ensures)

pub returns-in_ok-send_report-in-Corrected-3 : goal.returns-in_ok-send_report-in-Corrected-3
returns-in_ok-send_report-in-Corrected-3 c =
    reports_are _ _ Corrected _ _ c.in-Corrected.is
    (reports_three c.args.number c.args.order.now _ _ _ _ _ _ _ _ _ _
    c.accepted-in-Corrected.ensures c.half_filled-in-Corrected.ensures c.corrected.ensures
    c.in_ok-send_report-in-Corrected.ensures c.in_ok-send_report-in-Corrected-2.ensures
    c.in_ok-send_report-in-Corrected-3.ensures)
