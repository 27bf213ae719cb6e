use Rattle.std.proofs.Common.{ap, sym}
use Rattle.typed_fields.specs.Dec.{dec_text}
use Rattle.value_kinds.specs.CodeKinds.{judged}
use Rattle.value_kinds.specs.ValueKind.{spelt}
use Rattle.value_kinds.proofs.value_kind.judge_price.Goals as goal

pub returns-in-Some : goal.returns-in-Some
returns-in-Some c = ap (λ r. judged (spelt dec_text r)) (sym c.in-Some.ensures.value)
