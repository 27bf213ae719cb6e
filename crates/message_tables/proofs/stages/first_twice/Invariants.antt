use Rattle.std.proofs.Common.{◌≡◌, []}
use Rattle.message_tables.specs.Tables.{first_of}
use Rattle.message_tables.specs.FirstFault.{once_in, placed_from, twice}
use Rattle.message_tables.specs.CodeTables.{table_of}
use Rattle.message_tables.proofs.Placed.{rest_at}
use Rattle.message_tables.proofs.stages.first_twice.Given as goal

abbrev pub invariant-loop-place : goal.invariant-loop-place
invariant-loop-place g l =
    first_of (twice (once_in (table_of (λ k. k) l.table))) (rest_at l.fields l.place)
    ≡ first_of (twice (once_in (table_of (λ k. k) l.table))) (placed_from [] l.fields)
