use Rattle.std.proofs.Common.{◌≡◌, take, false}
use Rattle.std.specs.List.{list_any}
use Rattle.message_tables.proofs.Seen.{item_group}
use Rattle.message_tables.proofs.table.Table.is_in_groups.Given as goal

abbrev pub invariant-loop-item : goal.invariant-loop-item
invariant-loop-item g l = list_any (item_group l.tag) (take l.item-index l.item-items) ≡ false
