use Rattle.std.proofs.Common.{◌≡◌, ◌≤◌, ◌-◌, ◌++◌}
use Rattle.drill_day.specs.Drill.{orders_from}
use Rattle.drill_day.proofs.order.draw_orders.Given as goal

abbrev pub invariant-loop : goal.invariant-loop
invariant-loop l = record {
  orders : l.orders.items ++ orders_from l.draws.x (l.count - l.counter)
      ≡ orders_from l.fn.first l.fn.count;
  most : l.draws.x ≤ 65536;
}
