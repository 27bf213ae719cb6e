use Rattle.std.proofs.Common.{◌∙◌, arith}
use Rattle.drill_day.proofs.Orders.{few_of, small_of}
use Rattle.drill_day.proofs.Sound.{capture_is}
use Rattle.drill_day.proofs.drill.drill_day.Goals as goal

pub life_of-requires-clause-few : goal.life_of-requires-clause-few
life_of-requires-clause-few c = few_of c.deref.result.now c.args.first c.args.count
    (c.deref.ensures.value ∙ c.in_ok-orders.ensures.drawn) c.requires.count.1

pub life_of-requires-clause-small : goal.life_of-requires-clause-small
life_of-requires-clause-small c = small_of c.deref.result.now c.args.first c.args.count
    (c.deref.ensures.value ∙ c.in_ok-orders.ensures.drawn)

pub kinds_in-requires : goal.kinds_in-requires
kinds_in-requires c =
    let few = few_of c.deref-2.result.now c.args.first c.args.count
    (c.deref-2.ensures.value ∙ c.in_ok-orders.ensures.drawn) c.requires.count.1 in
    omega (arith, few)

pub returns-clause-sound : goal.returns-clause-sound
returns-clause-sound c = capture_is c.args.first c.args.count c.requires.count.1
