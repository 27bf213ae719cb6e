use Rattle.std.proofs.Common.{rules, arith}
use Rattle.drill_day.proofs.Days.{played_more, four_more}
use Rattle.drill_day.proofs.day.Day.play_all.Goals as goal

pub loop-order-preserved : goal.loop-order-preserved
loop-order-preserved c = record {
  played = played_more c.args.orders.now c.loop-order.order-index c.loop-order.number _
      c.args.self.now c.loop-order.self c.play.new.self c.loop-order-test.true (search rules)
      c.in_ok-play.ensures c.loop-order.invariant.played;
  count = omega (arith, c.loop-order.invariant.count);
  up_to = four_more c.loop-order.order-index c.play.new.self
      (c.in_ok-play.ensures.up_to _ c.loop-order.invariant.up_to);
}
