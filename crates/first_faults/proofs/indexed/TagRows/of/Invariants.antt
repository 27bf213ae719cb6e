use Rattle.first_faults.specs.Indexed.{AreTagRows}
use Rattle.first_faults.proofs.indexed.TagRows.of.Given as goal

abbrev pub invariant-loop-item : goal.invariant-loop-item
invariant-loop-item l = AreTagRows l.table l.rows.rows

abbrev pub invariant-loop-item-2 : goal.invariant-loop-item-2
invariant-loop-item-2 l = AreTagRows l.table l.rows.rows
