use Rattle.std.proofs.Common.{◌≡◌, ◌++◌, take}
use Rattle.std.specs.List.{flat_map}
use Rattle.field_groups.specs.Field.{body_of}
use Rattle.row_values.specs.Writing.{part_fields}
use Rattle.row_values.proofs.writing.put_parts.Given as goal

abbrev pub invariant-loop-part : goal.invariant-loop-part
invariant-loop-part l =
    l.out.items ≡ l.fn.out.items ++ body_of (flat_map part_fields (take l.part-index l.parts))
