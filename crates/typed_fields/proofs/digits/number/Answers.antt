use Rattle.std.proofs.Common.{arith, rules}
use Rattle.typed_fields.specs.Digits.{number_of}
use Rattle.typed_fields.proofs.DigitsLemmas.{digits_so_far, number_of_more}
use Rattle.typed_fields.proofs.digits.number.Goals as goal

pub loop-digit-init : goal.loop-digit-init
unfolding number_of
loop-digit-init c = search rules

pub overflow_mul-number : goal.overflow_mul-number
overflow_mul-number c = omega (
  arith,
  digits_so_far
      c.args.digits.now c.loop-digit.digit-index c.requires.digits c.requires.few (omega arith),
)

pub overflow_sub-digit : goal.overflow_sub-digit
overflow_sub-digit c = omega (
  arith,
  digits_so_far
      c.args.digits.now c.loop-digit.digit-index c.requires.digits c.requires.few (omega arith),
)

pub overflow_add-number : goal.overflow_add-number
overflow_add-number c = omega (
  arith,
  digits_so_far
      c.args.digits.now c.loop-digit.digit-index c.requires.digits c.requires.few (omega arith),
)

pub loop-digit-preserved : goal.loop-digit-preserved
loop-digit-preserved c =
    let digit = digits_so_far
    c.args.digits.now c.loop-digit.digit-index c.requires.digits c.requires.few (omega arith) in
    omega (
      arith,
      number_of_more c.args.digits.now c.loop-digit.digit-index (omega arith) digit.1 digit.2,
    )
