use Rattle.std.proofs.Common.{◌≡◌, map, take}
use Rattle.message_tables.specs.TagMarks.{with_tags}
use Rattle.message_tables.proofs.tag_marks.mark_rows.Given as goal

abbrev pub invariant-loop-row : goal.invariant-loop-row
invariant-loop-row g l =
    l.marks ≡ with_tags (map (λ row. row.tag) (take l.row-index l.rows)) l.fn.marks
