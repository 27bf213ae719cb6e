use Rattle.std.proofs.Common.{◌≡◌, take}
use Rattle.pair_entries.proofs.entry.Outs.as_refs.Given as goal

abbrev pub invariant-loop-out : goal.invariant-loop-out
invariant-loop-out l = l.refs ≡ take l.out-index l.out-items
