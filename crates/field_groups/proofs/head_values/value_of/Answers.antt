use Rattle.std.proofs.Common.{arith}
use Rattle.std.proofs.lemmas.List.{take_all}
use Rattle.field_groups.proofs.Digits.{so_far, short}
use Rattle.field_groups.proofs.head_values.value_of.Goals as goal

pub overflow_mul-value : goal.overflow_mul-value
overflow_mul-value c = omega (
  arith,
  (so_far c.args.digits.now
      c.loop-digit.digit-index c.requires.digits c.requires.few (omega arith)).number,
)

pub overflow_sub-digit : goal.overflow_sub-digit
overflow_sub-digit c = omega (
  arith,
  (so_far c.args.digits.now
      c.loop-digit.digit-index c.requires.digits c.requires.few (omega arith)).least,
)

pub overflow_add-value : goal.overflow_add-value
overflow_add-value c =
    let s = so_far
    c.args.digits.now c.loop-digit.digit-index c.requires.digits c.requires.few (omega arith) in
    omega (arith, s.number, s.most)

pub loop-digit-preserved : goal.loop-digit-preserved
loop-digit-preserved c = omega (
  arith,
  (so_far
      c.args.digits.now
      c.loop-digit.digit-index c.requires.digits c.requires.few (omega arith)).more,
)

pub returns-clause-bound : goal.returns-clause-bound
returns-clause-bound c =
    rw (c.loop-digit.invariant, take_all c.loop-digit.digit-index c.args.digits.now (omega arith))
    (short c.args.digits.now c.requires.digits)
