use Rattle.std.proofs.Common.{◌≡◌, ℕ, Some, ap, ◌∙◌, sym, arith}
use Rattle.std.proofs.lemmas.Bool.Decides.{nat_tests}
use Rattle.first_faults.proofs.faults.is_first.Goals as goal

pub returns-in-Some : goal.returns-in-Some
returns-in-Some c = λ yes.
    let same : c.in-Some.first ≡ c.args.place = grind (arith, nat_tests, yes) in
    ap (λ (n : ℕ). Some n) (sym same) ∙ c.in-Some.ensures.place
