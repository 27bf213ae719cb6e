use Rattle.std.proofs.Common.{ap, sym, ◌∙◌}
use Rattle.typed_fields.specs.Dec.{dec_text}
use Rattle.value_kinds.specs.CodeKinds.{judged}
use Rattle.value_kinds.specs.ValueKind.{spelt}
use Rattle.value_kinds.proofs.Unsigned.{unsigned_in_range}
use Rattle.value_kinds.proofs.value_kind.judge_qty.Goals as goal

pub returns-else-has_minus : goal.returns-else-has_minus
returns-else-has_minus c =
    c.judge_price.ensures
    ∙ ap (λ r. judged (spelt dec_text r)) (sym (unsigned_in_range c.args.value.now
    (sym c.if-has_minus.ensures)))
