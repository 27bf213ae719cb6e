use Rattle.std.proofs.Common.{◌≡◌, ◌≤◌, [], slice_range, drop}
use Rattle.edge_waits.specs.Fields.{value_behind, value_in}
use Rattle.edge_waits.proofs.fields.value_of.Given as goal

-- no field up to here has the name
abbrev pub invariant-loop-at : goal.invariant-loop-at
invariant-loop-at l = record {
  start : l.start ≤ l.at;
  value : value_behind l.name (slice_range l.bytes l.start l.at) (drop l.at l.bytes)
      ≡ value_behind l.name [] l.bytes;
}
