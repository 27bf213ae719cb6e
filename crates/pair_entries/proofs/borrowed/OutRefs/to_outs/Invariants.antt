use Rattle.std.proofs.Common.{◌≡◌, take}
use Rattle.pair_entries.proofs.borrowed.OutRefs.to_outs.Given as goal

abbrev pub invariant-loop-out : goal.invariant-loop-out
invariant-loop-out l = l.outs ≡ take l.out-index l.out-items
