use Rattle.std.proofs.Common.{◌≡◌, take, true}
use Rattle.std.specs.List.{flat_map, list_all}
use Rattle.first_faults.specs.Indexed.{is_said, row_in}
use Rattle.first_faults.proofs.indexed.are_said.Given as goal

abbrev pub invariant-loop-row : goal.invariant-loop-row
invariant-loop-row l =
    list_all (is_said l.fields) (flat_map row_in (take l.row-index l.rows)) ≡ true
