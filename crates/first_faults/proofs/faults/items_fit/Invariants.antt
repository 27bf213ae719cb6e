use Rattle.std.proofs.Common.{map, take}
use Rattle.message_tables.specs.CodeTables.{item_of}
use Rattle.row_values.specs.CodeKinds.{kind_of}
use Rattle.first_faults.specs.OnePass.{ItemsFit}
use Rattle.first_faults.proofs.faults.items_fit.Given as goal

abbrev pub invariant-loop-item : goal.invariant-loop-item
invariant-loop-item l =
    ItemsFit l.fields (map (item_of kind_of) (take l.item-index l.items)) l.fn.rowed l.rowed
