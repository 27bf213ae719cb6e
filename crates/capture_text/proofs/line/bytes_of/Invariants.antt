use Rattle.capture_text.proofs.Written.{Taken}
use Rattle.capture_text.proofs.line.bytes_of.Given as goal

abbrev pub invariant-loop-byte : goal.invariant-loop-byte
invariant-loop-byte l = Taken l.text l.byte-index l.bytes
