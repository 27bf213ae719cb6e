use Rattle.std.proofs.Common.{length}
use Rattle.entry_lines.proofs.line.+put_more.Given as goal

abbrev pub decreases-put_more : goal.decreases-put_more
decreases-put_more l = length l.outs.now
