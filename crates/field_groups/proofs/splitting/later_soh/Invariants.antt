use Rattle.std.proofs.Common.{◌-◌, ◌≤◌, length}
use Rattle.memchr.specs.Find.{Nowhere, Passes}
use Rattle.field_groups.specs.Field.{is_soh}
use Rattle.field_groups.proofs.splitting.later_soh.Given as goal

abbrev pub decreases-loop-from : goal.decreases-loop-from
decreases-loop-from l = length l.bytes - l.from

abbrev pub invariant-loop-from : goal.invariant-loop-from
invariant-loop-from l = record {
  within : l.from ≤ length l.bytes;
  before : Nowhere (Passes is_soh l.bytes) 0 l.from;
}
