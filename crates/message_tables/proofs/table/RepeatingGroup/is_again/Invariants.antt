use Rattle.std.proofs.Common.{◌≡◌, ◌≤◌, length, take}
use Rattle.std.specs.Prelude.{reverse}
use Rattle.message_tables.specs.Tables.{has_tag}
use Rattle.message_tables.specs.FirstFault.{line_before}
use Rattle.message_tables.specs.CodeTables.{seen, own_tags}
use Rattle.message_tables.proofs.table.RepeatingGroup.is_again.Given as goal

abbrev pub decreases-loop-place : goal.decreases-loop-place
decreases-loop-place g l = l.place

abbrev pub invariant-loop-place : goal.invariant-loop-place
invariant-loop-place g l = record {
  within : l.place ≤ length l.before;
  same : has_tag l.tag (line_before (own_tags l.self) (reverse (take l.place (seen l.before))))
      ≡ has_tag l.tag (line_before (own_tags l.self) (reverse (seen l.before)));
}
