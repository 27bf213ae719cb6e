use Rattle.std.proofs.Common.{◌≡◌, ◌≤◌, take}
use Rattle.std.specs.Prelude.{fold}
use Rattle.edge_logic.specs.LogonMark.{found_next}
use Rattle.edge_logic.proofs.logon_mark.found_behind.Given as goal

-- what is found in the bytes up to here
abbrev pub invariant-loop-byte : goal.invariant-loop-byte
invariant-loop-byte l = record {
  value : l.found ≡ fold found_next l.fn.found (take l.byte-index l.bytes);
  part : l.found ≤ 6;
}
