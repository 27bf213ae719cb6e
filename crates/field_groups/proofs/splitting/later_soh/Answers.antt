use Rattle.std.proofs.Common.{arith}
use Rattle.field_groups.proofs.splitting.later_soh.Goals as goal

pub loop-from-preserved : goal.loop-from-preserved
loop-from-preserved c = record {
  within = omega (arith, c.loop-from-test.true, c.loop-from.invariant.within);
  before = c.in_default.ensures.none;
}
