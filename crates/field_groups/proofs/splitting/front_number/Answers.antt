use Rattle.std.proofs.Common.{sym, arith}
use Rattle.field_groups.proofs.Digits.{More, one_more, count_is}
use Rattle.field_groups.proofs.splitting.front_number.Goals as goal

pub overflow_mul-number : goal.overflow_mul-number
overflow_mul-number c =
    let m : More c.args.bytes.now c.loop-len.len = one_more c.args.bytes.now c.loop-len.len
    c.loop-len.invariant.digits c.loop-len-test.true c.in-Some.ensures.some in
    omega (arith, m.number, c.loop-len.invariant.value)

pub overflow_add-number : goal.overflow_add-number
overflow_add-number c =
    let m : More c.args.bytes.now c.loop-len.len = one_more c.args.bytes.now c.loop-len.len
    c.loop-len.invariant.digits c.loop-len-test.true c.in-Some.ensures.some in
    omega (arith, m.number, m.least, m.most, c.loop-len.invariant.value, c.in-Some.ensures.digit)

pub loop-len-preserved : goal.loop-len-preserved
loop-len-preserved c =
    let m : More c.args.bytes.now c.loop-len.len = one_more c.args.bytes.now c.loop-len.len
    c.loop-len.invariant.digits c.loop-len-test.true c.in-Some.ensures.some in
    record {
      few = omega (arith, c.loop-len-test.true);
      within = omega (arith, m.within);
      digits = m.digits;
      value = omega (arith, m.more, c.loop-len.invariant.value, c.in-Some.ensures.digit);
    }

pub returns-in-None-clause-all : goal.returns-in-None-clause-all
returns-in-None-clause-all c = λ few.
    sym (count_is c.args.bytes.now c.loop-len.len c.loop-len.invariant.digits
    c.loop-len.invariant.within c.in-None.ensures.none)
