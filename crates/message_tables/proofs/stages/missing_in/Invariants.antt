use Rattle.std.proofs.Common.{◌≡◌, take, None}
use Rattle.message_tables.specs.Tables.{first_of}
use Rattle.message_tables.specs.FirstFault.{missing}
use Rattle.message_tables.specs.CodeTables.{seen, row_of}
use Rattle.message_tables.proofs.stages.missing_in.Given as goal

abbrev pub invariant-loop-row : goal.invariant-loop-row
invariant-loop-row g l =
    first_of (λ row. missing (seen l.line) (row_of (λ k. k) row)) (take l.row-index l.rows) ≡ None
