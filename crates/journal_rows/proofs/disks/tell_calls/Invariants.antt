use Rattle.std.proofs.Common.{◌≤◌, length}
use Rattle.journal_rows.proofs.disks.tell_calls.Given as goal

abbrev pub invariant-loop-step : goal.invariant-loop-step
invariant-loop-step l = 6 ≤ length l.disk.bytes
