use Rattle.std.proofs.Common.{take, refl, arith}
use Rattle.std.proofs.lemmas.Bool.Decides.{nat_tests}
use Rattle.typed_fields.specs.Digits.{number_of}
use Rattle.typed_fields.proofs.DecLaws.{whole_canonical, point_canonical, rest_of, both_pushed}
use Rattle.typed_fields.proofs.dec.push_plain.Goals as goal

pub returns-then-len-bytes-clause-own : goal.returns-then-len-bytes-clause-own
returns-then-len-bytes-clause-own c = λ yes.
    let digits = c.push_front-len.ensures in
    whole_canonical c.args.bytes.now c.push_front-len.result
    (number_of (take c.push_front-len.result c.args.bytes.now))
    c.if-len-bytes.true (omega (arith, c.if-len-eq0.false)) digits.few digits.digits refl
    (c.is_plain_whole.ensures c.if-not-is_plain_whole.false)

pub returns-in-Some-clause-own : goal.returns-in-Some-clause-own
returns-in-Some-clause-own c = λ yes.
    let bytes = c.args.bytes.now in
    let len = c.push_front-len.result in
    let digits = c.push_front-len.ensures in
    let behind = c.in-Some.ensures in
    point_canonical bytes _ len (number_of (take len bytes)) c.in-Some.places _
    (rest_of bytes len) digits.within (omega (arith, c.if-len-eq0.false)) digits.digits refl
    behind.point behind.digits behind.places behind.few (grind (arith, nat_tests, yes)) refl
    (c.is_plain_whole.ensures c.if-not-is_plain_whole.false) behind.trail

pub returns-in-Some-clause-items : goal.returns-in-Some-clause-items
returns-in-Some-clause-items c = λ yes.
    let bytes = c.args.bytes.now in
    let len = c.push_front-len.result in
    both_pushed c.args.out.now.items bytes c.push_front-len.new.out.items _
    c.push_point.new.out.items len (rest_of bytes len) c.push_front-len.ensures.items
    c.in-Some.ensures.items
