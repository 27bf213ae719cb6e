use Rattle.std.proofs.Common.{◌≡◌, ◌∷◌, sym, ◌∙◌}
use Rattle.pair_entries.specs.Payload.{flags_byte}
use Rattle.pair_entries.proofs.reading.flags_front.Goals as goal

pub returns-in_default : goal.returns-in_default
returns-in_default c = λ admin resend rest is.
    let both : c.in_ok-first.first ∷ c.in_ok-first.rest.now ≡ flags_byte admin resend ∷ rest =
    sym c.in_ok-first.ensures ∙ is in
    let byte : c.in_ok-first.first ≡ flags_byte admin resend = cc both in
    c.in_default.ensures admin resend byte
