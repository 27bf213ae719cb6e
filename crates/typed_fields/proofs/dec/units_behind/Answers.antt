use Rattle.std.proofs.Common.{arith}
use Rattle.typed_fields.proofs.DecLaws.{behind_small}
use Rattle.typed_fields.proofs.dec.units_behind.Goals as goal

pub overflow_mul-result : goal.overflow_mul-result
overflow_mul-result c =
    let places = c.front_digits-places in
    let small = behind_small _ places.result.0 places.result.1 places.ensures.digits
    places.ensures.within c.if-places-gt-MAX_PLACES.false places.ensures.value in
    rw c.ten_to.ensures (omega (arith, small))

pub returns-clause-small : goal.returns-clause-small
returns-clause-small c =
    let places = c.front_digits-places in
    rw c.ten_to.ensures (behind_small _ places.result.0 places.result.1 places.ensures.digits
    places.ensures.within c.if-places-gt-MAX_PLACES.false places.ensures.value)
