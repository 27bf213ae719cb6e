use Rattle.std.proofs.Common.{◌≡◌, ◌++◌, codes, map, take}
use Rattle.replay_lines.specs.ReplayLines.{printed}
use Rattle.replay_lines.proofs.lines.append_piece.Given as goal

abbrev pub invariant-loop-byte : goal.invariant-loop-byte
invariant-loop-byte l =
    l.text.items ≡ l.fn.text.items ++ (codes "> " ++ map printed (take l.byte-index l.piece))
