use Rattle.std.proofs.Common.{◌≡◌, take, None}
use Rattle.message_tables.specs.Tables.{first_of}
use Rattle.message_tables.proofs.Seen.{item_row}
use Rattle.message_tables.proofs.table.Table.row.Given as goal

abbrev pub invariant-loop-item : goal.invariant-loop-item
invariant-loop-item g l = first_of (item_row l.tag) (take l.item-index l.item-items) ≡ None
