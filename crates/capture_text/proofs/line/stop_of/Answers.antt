use Rattle.std.proofs.Common.{refl}
use Rattle.capture_text.proofs.StopLine.{no_blank}
use Rattle.capture_text.proofs.line.stop_of.Goals as goal

pub returns-in_default : goal.returns-in_default
returns-in_default c = no_blank c.args.text.now (c.in_default.ensures.none refl)
