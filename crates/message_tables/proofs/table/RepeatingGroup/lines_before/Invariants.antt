use Rattle.std.proofs.Common.{◌≡◌, ◌+◌, ◌≤◌, length, take}
use Rattle.std.specs.Prelude.{reverse}
use Rattle.message_tables.specs.FirstFault.{lines_begun}
use Rattle.message_tables.specs.CodeTables.{seen, own_tags}
use Rattle.message_tables.proofs.table.RepeatingGroup.lines_before.Given as goal

abbrev pub decreases-loop-place : goal.decreases-loop-place
decreases-loop-place g l = l.place

abbrev pub invariant-loop-place : goal.invariant-loop-place
invariant-loop-place g l = record {
  within : l.place ≤ length l.before;
  same : l.lines + lines_begun (own_tags l.self) (reverse (take l.place (seen l.before)))
      ≡ lines_begun (own_tags l.self) (reverse (seen l.before));
}
