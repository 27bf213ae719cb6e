use Rattle.std.proofs.Common.{◌≡◌, ◌+◌, ◌*◌, drop}
use Rattle.drill_day.specs.Day.{with_orders, IsUpTo}
use Rattle.drill_day.proofs.day.Day.play_all.Given as goal

abbrev pub invariant-loop-order : goal.invariant-loop-order
invariant-loop-order l = record {
  played : with_orders l.number l.self (drop l.order-index l.orders)
      ≡ with_orders 1 l.fn.self l.orders;
  count : l.number ≡ l.order-index + 1;
  up_to : IsUpTo (2 + 4 * l.order-index) l.self;
}
