use Rattle.drill_day.proofs.Orders.{kinds_count}
use Rattle.drill_day.proofs.laws.kinds_sum.Goals as goal

pub returns : goal.returns
returns c = kinds_count
