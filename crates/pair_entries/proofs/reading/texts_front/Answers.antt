use Rattle.std.proofs.Common.{◌++◌}
use Rattle.pair_entries.specs.Payload.{counted}
use Rattle.pair_entries.proofs.Fronts.{behind_text}
use Rattle.pair_entries.proofs.reading.texts_front.Goals as goal

pub returns-in_default : goal.returns-in_default
returns-in_default c = λ text content rest low high bound is.
    let e = c.in_ok-msg_type.ensures in
    c.in_default.ensures content rest bound
    (behind_text c.in_ok-msg_type.msg_type.now
    text c.in_ok-msg_type.rest.now (counted content ++ rest) c.args.bytes.now e.0 is)
