use Rattle.std.proofs.Common.{◌++◌}
use Rattle.pair_entries.specs.Birth.{name_bytes}
use Rattle.pair_entries.proofs.Names.{behind_name}
use Rattle.pair_entries.proofs.birth.pair_front.Goals as goal

pub returns-in_default : goal.returns-in_default
returns-in_default c = λ our peer rest is_our is_peer is.
    c.in_default.ensures peer rest is_peer (behind_name c.in_ok-our.our.now our
    c.in_ok-our.rest.now (name_bytes peer ++ rest) c.args.bytes.now c.in_ok-our.ensures.0 is)
