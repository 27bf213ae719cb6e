use Rattle.std.proofs.Common.{◌-◌, ◌≤◌, length, drop}
use Rattle.message_tables.specs.CodeTables.{seen}
use Rattle.message_tables.specs.Tables.{in_lines}
use Rattle.row_values.proofs.LineByLine.{Reads}
use Rattle.row_values.proofs.lines.read_group.Given as goal

abbrev pub invariant-loop-from : goal.invariant-loop-from
invariant-loop-from g l = record {
  within : l.from ≤ length l.members;
  few : length (in_lines l.first (seen l.members)) ≤ 32;
  reads : Reads g.L.GroupLine.is_line (in_lines l.first (seen l.members))
      (in_lines l.first (drop l.from (seen l.members))) l.lines;
}

abbrev pub decreases-loop-from : goal.decreases-loop-from
decreases-loop-from g l = length l.members - l.from
