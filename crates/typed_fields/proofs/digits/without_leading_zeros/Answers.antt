use Rattle.std.proofs.Common.{◌<◌, length, sym, ◌∙◌, arith}
use Rattle.std.proofs.lemmas.List.{take_rest}
use Rattle.typed_fields.proofs.DigitsLemmas.{leading_zero, leading_other, leading_none}
use Rattle.typed_fields.proofs.digits.without_leading_zeros.Goals as goal
use Rattle.typed_fields.proofs.digits.without_leading_zeros.Goals.{
  then-loop-start-test+else-digits-start-eq48,
}
use Rattle.typed_fields.proofs.digits.without_leading_zeros.Goals.{else-loop-start-test}

pub loop-start-preserved : goal.loop-start-preserved
loop-start-preserved c =
    let within : c.loop-start.start < length c.args.digits.now = omega arith in (
      omega arith,
      leading_zero c.args.digits.now
          c.loop-start.start within c.if-digits-start-eq48.true ∙ c.loop-start.invariant.1,
    )

pub returns-clause-value : goal.returns-clause-value
returns-clause-value c =
    take_rest c.args.digits.now c.loop-start.start
    ∙ (sym (elim c.loop-start-test.branch [
      | then-loop-start-test+else-digits-start-eq48 w ↦ leading_other
          c.args.digits.now c.loop-start.start w.loop-start-test.true w.if-digits-start-eq48.false
      | else-loop-start-test w ↦
          leading_none c.args.digits.now c.loop-start.start w.loop-start-test.false
    ])
    ∙ c.loop-start.invariant.1)
