use Rattle.std.proofs.Common.{◌≡◌, take, false}
use Rattle.std.specs.List.{list_any}
use Rattle.message_tables.proofs.Seen.{item_once}
use Rattle.message_tables.proofs.table.is_once_in.Given as goal

abbrev pub invariant-loop-item : goal.invariant-loop-item
invariant-loop-item g l = list_any (item_once l.tag) (take l.item-index l.items) ≡ false
