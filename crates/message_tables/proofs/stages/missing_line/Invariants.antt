use Rattle.std.proofs.Common.{◌≡◌, ◌-◌, ◌≤◌, length, drop}
use Rattle.message_tables.specs.Tables.{first_of, in_lines}
use Rattle.message_tables.specs.FirstFault.{missing}
use Rattle.message_tables.specs.CodeTables.{seen, group_of, own_tags}
use Rattle.message_tables.proofs.stages.missing_line.Given as goal

abbrev pub decreases-loop-from : goal.decreases-loop-from
decreases-loop-from g l = length l.fields - l.from

abbrev pub invariant-loop-from : goal.invariant-loop-from
invariant-loop-from g l = record {
  within : l.from ≤ length l.fields;
  same : first_of (λ line. first_of (missing line) (group_of (λ k. k) l.group).rows)
      (in_lines (own_tags l.group).first (drop l.from (seen l.fields)))
      ≡ first_of (λ line. first_of (missing line) (group_of (λ k. k) l.group).rows)
      (in_lines (own_tags l.group).first (seen l.fields));
}
