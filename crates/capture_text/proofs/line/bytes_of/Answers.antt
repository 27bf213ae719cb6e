use Rattle.std.proofs.Common.{refl}
use Rattle.capture_text.proofs.Written.{no_bytes}
use Rattle.capture_text.proofs.line.bytes_of.Goals as goal

pub returns-in_default : goal.returns-in_default
returns-in_default c = λ bytes are is. no_bytes c.args.text.now bytes c.loop-byte.byte-index
    c.loop-byte-test.true (c.in_default.ensures.none refl) are is
