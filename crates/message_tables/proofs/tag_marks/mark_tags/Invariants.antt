use Rattle.std.proofs.Common.{◌≡◌, take}
use Rattle.message_tables.specs.TagMarks.{with_tags}
use Rattle.message_tables.proofs.tag_marks.mark_tags.Given as goal

abbrev pub invariant-loop-tag : goal.invariant-loop-tag
invariant-loop-tag l = l.marks ≡ with_tags (take l.tag-index l.tags) l.fn.marks
