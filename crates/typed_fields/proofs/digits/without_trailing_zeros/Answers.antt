use Rattle.std.proofs.Common.{◌≡◌, ◌+◌, ◌-◌, ◌<◌, length, sym, ◌∙◌, arith}
use Rattle.typed_fields.proofs.DigitsLemmas.{trailing_zero, trailing_other, trailing_none}
use Rattle.typed_fields.proofs.digits.without_trailing_zeros.Goals as goal
use Rattle.typed_fields.proofs.digits.without_trailing_zeros.Goals.{
  then-loop-end-test+else-digits-end-eq48,
}
use Rattle.typed_fields.proofs.digits.without_trailing_zeros.Goals.{else-loop-end-test}

pub loop-end-preserved : goal.loop-end-preserved
loop-end-preserved c =
    let within : c.loop-end.end - 1 < length c.args.digits.now = omega arith in
    let back : c.loop-end.end ≡ c.loop-end.end - 1 + 1 = omega arith in (
      omega arith,
      trailing_zero c.args.digits.now (c.loop-end.end - 1)
          c.loop-end.end within back c.if-digits-end-eq48.true ∙ c.loop-end.invariant.1,
    )

pub returns-clause-value : goal.returns-clause-value
returns-clause-value c =
    sym (elim c.loop-end-test.branch [
      | then-loop-end-test+else-digits-end-eq48 w ↦ trailing_other c.args.digits.now
          (c.loop-end.end - 1) c.loop-end.end (omega (arith, w.loop-end-test.true))
          (omega (arith, w.loop-end-test.true)) w.if-digits-end-eq48.false
      | else-loop-end-test w ↦
          trailing_none c.args.digits.now c.loop-end.end (omega (arith, w.loop-end-test.false))
    ])
    ∙ c.loop-end.invariant.1
