-- Inside: how a tag may stand in a message, as the code tells it of a table.
use Rattle.std.specs.Prelude.{◌≡◌, ℕ, Some, None, true, false}
use Rattle.message_tables.specs.declared.table.Standing.{Standing}
use Rattle.message_tables.specs.declared.table.Standing.TheVariants as standings
use Rattle.message_tables.specs.declared.table.Table.{Table as CodeTable}
use Rattle.message_tables.specs.Tables.{all_rows, is_one_of, row_at}
use Rattle.message_tables.specs.FirstFault.{once_in}
use Rattle.message_tables.specs.CodeTables.{row_of, table_of}

abbrev pub IsStanding : {K : Type 0} → CodeTable K → ℕ → Standing K → Type 0
IsStanding {K} table tag standings.Once =
    is_one_of (once_in (table_of (λ (k : K). k) table)) tag ≡ true
IsStanding {K} table tag (standings.Again row) =
    (is_one_of (once_in (table_of (λ (k : K). k) table)) tag ≡ false)
    × (Some (row_of (λ (k : K). k) row.now) ≡ row_at tag (all_rows (table_of (λ (k : K). k) table)))
IsStanding {K} table tag standings.WithoutRow =
    (is_one_of (once_in (table_of (λ (k : K). k) table)) tag ≡ false)
    × (None ≡ row_at tag (all_rows (table_of (λ (k : K). k) table)))
