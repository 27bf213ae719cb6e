use Rattle.std.proofs.Common.{◌≡◌, ◌++◌, take}
use Rattle.field_groups.specs.Field.{body_of}
use Rattle.rule_rows.specs.Rows.{line_by}
use Rattle.rule_rows.proofs.group_lines.put_rows.Given as goal

abbrev pub invariant-loop-row : goal.invariant-loop-row
invariant-loop-row g l = l.out.items
    ≡ l.fn.out.items ++ body_of (line_by (take l.row-index l.rows) (g.F.Lookup.fields l.fields))
