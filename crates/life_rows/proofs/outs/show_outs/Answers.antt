use Rattle.std.proofs.Common.{arith}
use Rattle.life_rows.proofs.outs.show_outs.Goals as goal

pub loop-number-init : goal.loop-number-init
loop-number-init g c = record {
  stands = c.requires.stands;
  walk = c.restart.ensures.walk (g.D.Disk.bytes c.args.disk.now) c.args.journal.now.entries
      c.args.side 1 (omega arith);
}
