use Rattle.std.proofs.Common.{◌≡◌, map, drop}
use Rattle.message_tables.specs.CodeTables.{item_of}
use Rattle.row_values.specs.CodeKinds.{kind_of}
use Rattle.rule_rows.specs.Rows.{group_at}
use Rattle.rule_rows.proofs.group_lines.group_at.Given as goal

abbrev pub invariant-loop-item : goal.invariant-loop-item
invariant-loop-item l = group_at l.count (map (item_of kind_of) (drop l.item-index l.items))
    ≡ group_at l.count (map (item_of kind_of) l.items)
