use Rattle.std.proofs.Common.{ℕ, ◌<◌}
use Rattle.message_tables.specs.CodeTables.{table_of}
use Rattle.row_values.specs.CodeKinds.{kind_of}
use Rattle.first_faults.specs.OnePass.{IsGoodPlace}
use Rattle.first_faults.proofs.faults.are_good.Given as goal

abbrev pub invariant-loop-place : goal.invariant-loop-place
invariant-loop-place l = (place : ℕ) → place < l.place
    → IsGoodPlace (table_of kind_of l.table) l.fields l.rowed place
