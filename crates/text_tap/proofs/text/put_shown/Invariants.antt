use Rattle.std.proofs.Common.{◌≡◌, ◌++◌, map, take}
use Rattle.text_tap.specs.Shown.{shown}
use Rattle.text_tap.proofs.text.put_shown.Given as goal

abbrev pub invariant-loop-byte : goal.invariant-loop-byte
invariant-loop-byte l =
    l.lines.items ≡ l.fn.lines.items ++ map shown (take l.byte-index l.bytes)
