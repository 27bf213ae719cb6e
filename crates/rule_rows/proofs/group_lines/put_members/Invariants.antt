use Rattle.std.proofs.Common.{◌≡◌, ◌≤◌, ◌-◌, ◌++◌, length, drop}
use Rattle.std.specs.Io.{StartsWith}
use Rattle.std.specs.List.{flat_map}
use Rattle.field_groups.specs.Field.{body_of}
use Rattle.message_tables.specs.CodeTables.{seen}
use Rattle.message_tables.specs.Tables.{in_lines}
use Rattle.rule_rows.specs.Rows.{line_by}
use Rattle.rule_rows.proofs.group_lines.put_members.Given as goal

abbrev pub invariant-loop-from : goal.invariant-loop-from
invariant-loop-from l = record {
  within : l.from ≤ length l.members;
  kept : StartsWith l.out.items l.fn.out.items;
  written : l.out.items
      ++ body_of (flat_map (line_by l.rows) (in_lines l.first (drop l.from (seen l.members))))
      ≡ l.fn.out.items
      ++ body_of (flat_map (line_by l.rows) (in_lines l.first (seen l.members)));
}

abbrev pub decreases-loop-from : goal.decreases-loop-from
decreases-loop-from l = length l.members - l.from
