use Rattle.std.proofs.Common.{length}
use Rattle.pair_entries.proofs.birth.+are_zero.Given as goal

abbrev pub decreases-are_zero : goal.decreases-are_zero
decreases-are_zero l = length l.bytes.now
