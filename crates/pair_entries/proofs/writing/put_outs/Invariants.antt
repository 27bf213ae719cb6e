use Rattle.std.proofs.Common.{◌≡◌, ◌++◌, take, drop}
use Rattle.std.specs.List.{flat_map}
use Rattle.pair_entries.specs.Payload.{out_bytes, AreOuts}
use Rattle.pair_entries.proofs.writing.put_outs.Given as goal

abbrev pub invariant-loop-out : goal.invariant-loop-out
invariant-loop-out l = record {
  written : l.bytes.items ≡ l.fn.bytes.items ++ flat_map out_bytes (take l.out-index l.outs);
  left : AreOuts (drop l.out-index l.outs);
}
