use Rattle.std.proofs.Common.{◌++◌, ◌∷◌, length}
use Rattle.pair_entries.specs.Payload.{counted}
use Rattle.pair_entries.specs.declared.reading.Head.{Head}
use Rattle.pair_entries.proofs.reading.out_ref.Goals as goal

pub returns-in_default : goal.returns-in_default
returns-in_default c = λ out rest is_out is.
    let head : Head =
    record { side = out.side; number = out.number; admin = out.admin; resend = out.resend } in
    c.in_default.ensures
    head (length out.msg_type ∷ ((out.msg_type ++ counted out.content) ++ rest)) is_out.below is
