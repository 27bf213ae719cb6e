use Rattle.std.proofs.Common.{take}
use Rattle.first_faults.specs.Indexed.{AreNeeded}
use Rattle.first_faults.proofs.indexed.Needs.of.Given as goal

abbrev pub invariant-loop-item : goal.invariant-loop-item
invariant-loop-item l = AreNeeded (take l.item-index l.table.items.now) l.rows l.needs
