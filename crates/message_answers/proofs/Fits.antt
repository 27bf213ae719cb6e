-- What is said of a message that does not go on fits an entry.
use Rattle.std.proofs.Common.{Result, arith}
use Rattle.std.specs.Prelude.{IfOk}
use Rattle.std.proofs.lemmas.Result.{IfOk-weaker}
use Rattle.session_core.specs.declared.said.Said.{Said}
use Rattle.reject_rules.specs.Laws.{IsShort}
use Rattle.message_answers.specs.Seen.{IsFit}

short_fits : (said : Said) → IsShort said → IsFit said
short_fits said short = record {
  typed = omega (arith, short.letter);
  short = omega (arith, short.letter);
  bounded = omega (arith, short.short);
}

-- where there is memory
pub fits_by : {E : Type 0} (P : Said → Type 0) (result : Result Said E)
    → ((said : Said) → P said → IsShort said) → IfOk result P → IfOk result IsFit
fits_by P result short =
    IfOk-weaker result P IsFit (λ said is. short_fits said (short said is))
