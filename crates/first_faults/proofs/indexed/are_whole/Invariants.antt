use Rattle.std.proofs.Common.{map, take}
use Rattle.std.specs.List.{AllByRecursion}
use Rattle.message_tables.specs.CodeTables.{item_of}
use Rattle.row_values.specs.CodeKinds.{kind_of}
use Rattle.first_faults.specs.Indexed.{IsWholeItem}
use Rattle.first_faults.proofs.indexed.are_whole.Given as goal

abbrev pub invariant-loop-item : goal.invariant-loop-item
invariant-loop-item l = AllByRecursion
    (IsWholeItem l.fields) (map (item_of kind_of) (take l.item-index l.items))
