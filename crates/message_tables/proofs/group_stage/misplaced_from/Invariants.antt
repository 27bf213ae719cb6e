use Rattle.std.proofs.Common.{◌≡◌, []}
use Rattle.message_tables.specs.Tables.{first_of}
use Rattle.message_tables.specs.FirstFault.{placed_from, in_groups, group_tags_in}
use Rattle.message_tables.specs.CodeTables.{seen, table_of}
use Rattle.message_tables.proofs.Placed.{rest_at}
use Rattle.message_tables.proofs.group_stage.misplaced_from.Given as goal

abbrev pub invariant-loop-place : goal.invariant-loop-place
invariant-loop-place g l =
    first_of
    (in_groups (group_tags_in (table_of (λ k. k) l.table))) (rest_at (seen l.fields) l.place)
    ≡ first_of
    (in_groups (group_tags_in (table_of (λ k. k) l.table))) (placed_from [] (seen l.fields))
