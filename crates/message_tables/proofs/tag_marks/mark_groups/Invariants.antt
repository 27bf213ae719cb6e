use Rattle.std.proofs.Common.{◌≡◌, take}
use Rattle.std.specs.List.{flat_map}
use Rattle.message_tables.specs.CodeTables.{item_of}
use Rattle.message_tables.specs.TagMarks.{grouped, with_tags}
use Rattle.message_tables.proofs.tag_marks.mark_groups.Given as goal

abbrev pub invariant-loop-item : goal.invariant-loop-item
invariant-loop-item g l = l.marks
    ≡ with_tags (flat_map (λ item. grouped (item_of (λ k. k) item)) (take l.item-index l.items))
    l.fn.marks
