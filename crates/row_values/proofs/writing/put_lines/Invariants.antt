use Rattle.std.proofs.Common.{◌≡◌, ◌++◌, length, take}
use Rattle.std.specs.List.{flat_map}
use Rattle.field_groups.specs.Field.{body_of}
use Rattle.message_tables.specs.Content.{line_fields}
use Rattle.row_values.specs.Writing.{count_fields}
use Rattle.row_values.proofs.writing.put_lines.Given as goal

abbrev pub invariant-loop-line : goal.invariant-loop-line
invariant-loop-line g l =
    l.out.items ≡ (l.fn.out.items ++ body_of (count_fields l.tag (length l.lines)))
    ++ body_of
    (flat_map (λ line. line_fields (g.L.GroupLine.cells line)) (take l.line-index l.lines))
