use Rattle.std.proofs.Common.{◌∙◌}
use Rattle.value_kinds.proofs.Spelled.{one_digit, both_digits, no_digits}
use Rattle.value_kinds.proofs.value_kind.day_of_month.Goals as goal

pub returns-then-value-eq1-clause-text : goal.returns-then-value-eq1-clause-text
returns-then-value-eq1-clause-text c =
    c.two_digits.ensures.text ∙ one_digit c.args.value.now 0 c.if-value-eq1.true

pub returns-then-value-eq2-clause-text : goal.returns-then-value-eq2-clause-text
returns-then-value-eq2-clause-text c =
    c.two_digits-then-value-eq2.ensures.text ∙ both_digits c.args.value.now 0 0 c.if-value-eq2.true

pub returns-else-value-eq2-clause-text : goal.returns-else-value-eq2-clause-text
returns-else-value-eq2-clause-text c =
    no_digits c.args.value.now c.if-value-eq1.false c.if-value-eq2.false
