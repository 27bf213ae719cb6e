use Rattle.std.proofs.Common.{sym, ◌∙◌, refl, arith}
use Rattle.typed_fields.specs.Digits.{are_digits, number_of}
use Rattle.typed_fields.proofs.DigitsLemmas.{FrontMore, front_more}
use Rattle.typed_fields.proofs.digits.front_digits.Goals as goal

pub loop-len-init : goal.loop-len-init
unfolding are_digits number_of
loop-len-init c =
    record { few = omega arith; within = omega arith; digits = refl; value = refl }

pub overflow_mul-number : goal.overflow_mul-number
overflow_mul-number c =
    let more : FrontMore c.args.bytes.now c.loop-len.len = front_more c.args.bytes.now
    c.loop-len.len c.loop-len-test.true c.if-len-lt-MAX_DIGITS.true c.loop-len.invariant.digits
    (sym c.is_ascii_digit.ensures.value ∙ c.if-is_ascii_digit.true) in
    omega (arith, more.small, c.loop-len.invariant.value)

pub overflow_add-number : goal.overflow_add-number
overflow_add-number c =
    let more : FrontMore c.args.bytes.now c.loop-len.len = front_more c.args.bytes.now
    c.loop-len.len c.loop-len-test.true c.if-len-lt-MAX_DIGITS.true c.loop-len.invariant.digits
    (sym c.is_ascii_digit.ensures.value ∙ c.if-is_ascii_digit.true) in
    omega (arith, more.small, more.most, c.loop-len.invariant.value, c.from.ensures)

pub loop-len-preserved : goal.loop-len-preserved
loop-len-preserved c =
    let more : FrontMore c.args.bytes.now c.loop-len.len = front_more c.args.bytes.now
    c.loop-len.len c.loop-len-test.true c.if-len-lt-MAX_DIGITS.true c.loop-len.invariant.digits
    (sym c.is_ascii_digit.ensures.value ∙ c.if-is_ascii_digit.true) in
    record {
      few = omega (arith, c.if-len-lt-MAX_DIGITS.true);
      within = omega (arith, c.loop-len-test.true);
      digits = more.digits;
      value = omega (arith, more.number, c.loop-len.invariant.value, c.from.ensures);
    }
