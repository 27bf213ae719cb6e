use Rattle.std.proofs.Common.{◌≡◌, ◌∙◌, sym, arith}
use Rattle.std.proofs.lemmas.Fmt.{decimal_injective}
use Rattle.capture_text.proofs.header.number_to.Goals as goal

pub returns-in_default : goal.returns-in_default
returns-in_default c = λ number small is.
    let same : c.in-Some.number ≡ number = decimal_injective c.in-Some.number number (omega arith)
    (omega (arith, small, c.requires)) (sym c.in-Some.ensures.some ∙ is) in
    absurd (omega (arith, same, small, c.if-number-most))
