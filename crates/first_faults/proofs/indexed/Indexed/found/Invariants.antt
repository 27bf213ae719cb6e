use Rattle.std.proofs.Common.{map, take}
use Rattle.message_tables.specs.FirstFault.{marked}
use Rattle.message_tables.specs.Stages.{IsFound}
use Rattle.row_values.specs.Kinds.{judge}
use Rattle.first_faults.proofs.indexed.Indexed.found.Given as goal

abbrev pub invariant-loop-place : goal.invariant-loop-place
invariant-loop-place l =
    IsFound (map (marked judge l.self l.fields) (take l.place l.fields)) l.found
