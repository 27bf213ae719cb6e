use Rattle.first_faults.specs.Indexed.{AreTagRows}
use Rattle.first_faults.proofs.indexed.TagRows.keep_all.Given as goal

abbrev pub invariant-loop-row : goal.invariant-loop-row
invariant-loop-row l = AreTagRows l.table l.self.rows
