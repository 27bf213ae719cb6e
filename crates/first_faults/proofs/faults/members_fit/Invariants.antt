use Rattle.std.proofs.Common.{map, take}
use Rattle.message_tables.specs.CodeTables.{row_of}
use Rattle.row_values.specs.CodeKinds.{kind_of}
use Rattle.first_faults.specs.OnePass.{MembersFit}
use Rattle.first_faults.proofs.faults.members_fit.Given as goal

abbrev pub invariant-loop-row : goal.invariant-loop-row
invariant-loop-row l =
    MembersFit l.fields (map (row_of kind_of) (take l.row-index l.rows)) l.fn.rowed l.rowed
