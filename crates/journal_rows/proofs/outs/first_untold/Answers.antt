use Rattle.std.proofs.Common.{arith}
use Rattle.order_meaning.specs.declared.Side.TheVariants.{Venue}
use Rattle.journal_rows.proofs.outs.first_untold.Goals as goal

pub loop-number-init : goal.loop-number-init
loop-number-init g c = record {
  stands = c.requires.stands;
  walk = c.restart.ensures.walk (g.D.Disk.bytes c.args.disk.now) c.args.journal.now.entries Venue 1
      (omega arith);
}
