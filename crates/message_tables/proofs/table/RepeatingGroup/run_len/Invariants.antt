use Rattle.std.proofs.Common.{◌≡◌, ◌+◌, drop}
use Rattle.std.specs.List.{prefix_len}
use Rattle.message_tables.specs.Tables.{is_inside}
use Rattle.message_tables.specs.CodeTables.{seen, own_tags}
use Rattle.message_tables.proofs.table.RepeatingGroup.run_len.Given as goal

abbrev pub invariant-loop-place : goal.invariant-loop-place
invariant-loop-place g l =
    l.place
    + prefix_len (λ field. is_inside (own_tags l.self) field.0) (drop l.place (seen l.fields))
    ≡ prefix_len (λ field. is_inside (own_tags l.self) field.0) (seen l.fields)
