use Rattle.std.proofs.Common.{◌≤◌, length}
use Rattle.edge_logic.proofs.journal.fill.Given as goal

-- what was got fits
abbrev pub invariant-loop : goal.invariant-loop
invariant-loop g l = l.got ≤ length l.buf
