use Rattle.std.proofs.Common.{◌≡◌, ◌≤◌, ◌-◌, ◌++◌, length}
use Rattle.std.specs.List.{flat_map}
use Rattle.pair_entries.specs.Payload.{out_bytes, AreOuts}
use Rattle.pair_entries.proofs.reading.outs_front.Given as goal

abbrev pub invariant-loop-rest : goal.invariant-loop-rest
invariant-loop-rest l = record {
  read : l.fn.bytes ≡ flat_map out_bytes l.outs ++ l.rest;
  sound : AreOuts l.outs;
  few : length l.outs ≤ l.count;
}

abbrev pub decreases-loop-rest : goal.decreases-loop-rest
decreases-loop-rest l = l.count - length l.outs
