use Rattle.std.proofs.Common.{◌-◌, length}
use Rattle.field_groups.proofs.Taking.{Taken}
use Rattle.field_groups.proofs.splitting.split_into.Given as goal

abbrev pub invariant-loop-rest : goal.invariant-loop-rest
invariant-loop-rest l = Taken l.body l.split.fields l.rest

abbrev pub decreases-loop-rest : goal.decreases-loop-rest
decreases-loop-rest l = 256 - length l.split.fields
