use Rattle.std.proofs.Common.{◌≡◌, false}
use Rattle.journal_rows.proofs.disks.tell_reads.Given as goal

abbrev pub invariant-loop-read : goal.invariant-loop-read
invariant-loop-read l = l.source.ended ≡ false
