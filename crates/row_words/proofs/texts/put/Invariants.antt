use Rattle.std.proofs.Common.{◌≡◌, ◌++◌, take}
use Rattle.row_words.specs.Texts.{meant}
use Rattle.row_words.proofs.texts.put.Given as goal

abbrev pub invariant-loop-byte : goal.invariant-loop-byte
invariant-loop-byte l =
    l.out.items ≡ l.fn.out.items ++ meant l.signs (take l.byte-index l.text)
