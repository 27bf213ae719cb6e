use Rattle.std.proofs.Common.{ap, ◌∙◌, length}
use Rattle.drill_day.proofs.Orders.{step_more, drawn_all, orders_count, small_of}
use Rattle.drill_day.proofs.order.draw_orders.Goals as goal

pub loop-preserved : goal.loop-preserved
loop-preserved c = record {
  orders = step_more c.loop.orders.items c.push.new.self.items _ c.order.result c.loop.draws.x
      c.order.new.self.x c.args.count c.loop.counter c.loop-test.true c.loop.invariant.orders
      c.order.ensures.drawn c.order.ensures.next c.in_ok-push.ensures.items;
  most = c.order.ensures.most;
}

pub returns-clause-count : goal.returns-clause-count
returns-clause-count c = ap length (drawn_all c.loop.orders.items _ c.loop.draws.x c.args.count
    c.loop.counter c.loop-test.false c.loop.invariant.orders)
    ∙ orders_count c.args.first c.args.count

pub returns-clause-small : goal.returns-clause-small
returns-clause-small c = small_of c.loop.orders.items c.args.first c.args.count
    (drawn_all c.loop.orders.items _ c.loop.draws.x c.args.count c.loop.counter c.loop-test.false
    c.loop.invariant.orders)
