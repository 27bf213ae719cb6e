use Rattle.std.proofs.Common.{arith}
use Rattle.typed_fields.proofs.DecLaws.{whole_plain, point_plain, rest_of}
use Rattle.typed_fields.proofs.dec.plain_units.Goals as goal

pub returns-then-len-bytes : goal.returns-then-len-bytes
returns-then-len-bytes c =
    let digits = c.front_digits-len.ensures in
    rw c.from-units.ensures
    (whole_plain c.args.bytes.now c.front_digits-len.result.0 c.front_digits-len.result.1
    c.if-len-bytes.true (omega (arith, c.if-len-eq0.false)) digits.few digits.digits digits.value)

pub returns : goal.returns
returns c =
    let digits = c.front_digits-len.ensures in
    let behind = c.in_ok-places in
    rw (c.from-units.ensures, c.from.ensures)
    (point_plain c.args.bytes.now _ c.front_digits-len.result.0 c.front_digits-len.result.1
    behind.places behind.behind (rest_of c.args.bytes.now c.front_digits-len.result.0)
    digits.within (omega (arith, c.if-len-eq0.false)) digits.digits digits.value
    behind.ensures.point behind.ensures.digits behind.ensures.places behind.ensures.few
    c.if-len-places-gt-MAX_DIGITS.false behind.ensures.units)
