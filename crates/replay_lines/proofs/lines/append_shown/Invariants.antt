use Rattle.std.proofs.Common.{◌≡◌, ◌++◌, drop}
use Rattle.replay_lines.specs.CallLog.{opened_in, shown}
use Rattle.replay_lines.proofs.lines.append_shown.Given as goal

abbrev pub invariant-loop-byte : goal.invariant-loop-byte
invariant-loop-byte l = record {
  count : opened_in l.connections (drop l.byte-index l.kept)
      ≡ opened_in l.fn.connections l.kept;
  text : l.text.items ++ shown l.side l.connections (drop l.byte-index l.kept)
      ≡ l.fn.text.items ++ shown l.side l.fn.connections l.kept;
}
