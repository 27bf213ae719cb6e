use Rattle.std.proofs.Common.{◌≡◌, ◌≤◌, ◌+◌, ◌-◌, length, drop}
use Rattle.message_tables.specs.CodeTables.{seen}
use Rattle.message_tables.specs.Tables.{in_lines}
use Rattle.rule_rows.proofs.group_lines.count_lines.Given as goal

abbrev pub invariant-loop-from : goal.invariant-loop-from
invariant-loop-from l = record {
  within : l.from ≤ length l.members;
  few : l.count ≤ l.from;
  counted : l.count + length (in_lines l.first (drop l.from (seen l.members)))
      ≡ length (in_lines l.first (seen l.members));
}

abbrev pub decreases-loop-from : goal.decreases-loop-from
decreases-loop-from l = length l.members - l.from
