use Rattle.std.proofs.Common.{length}
use Rattle.kept_entries.proofs.numbers.+are_numbered.Given as goal

abbrev pub decreases-are_numbered : goal.decreases-are_numbered
decreases-are_numbered l = length l.outs.now
