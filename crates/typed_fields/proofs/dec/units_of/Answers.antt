use Rattle.std.proofs.Common.{◌<◌, ◌-◌, ◌*◌, ◌^◌, length, arith}
use Rattle.typed_fields.specs.Digits.{number_of}
use Rattle.typed_fields.proofs.DecLemmas.{units_of-lt}
use Rattle.typed_fields.proofs.DecLaws.{units-parts}
use Rattle.typed_fields.proofs.dec.units_of.Goals as goal

pub overflow_mul-behind : goal.overflow_mul-behind
overflow_mul-behind c =
    let behind = units-parts
    c.args.whole.now c.args.fraction.now c.requires.fraction c.requires.places in
    let small : number_of c.args.fraction.now * 10 ^ (8 - length c.args.fraction.now) < 10 ^ 8 =
    omega (arith, behind.1) in
    rw (c.number.ensures, c.ten_to.ensures) (omega (arith, small))

pub returns-clause-bound : goal.returns-clause-bound
returns-clause-bound c =
    rw (
      c.from.ensures,
      c.number-2.ensures,
      c.from-2.ensures,
      c.number.ensures,
      c.ten_to.ensures,
    )
    (units_of-lt c.args.whole.now
    c.args.fraction.now c.requires.whole c.requires.fraction c.requires.few c.requires.places)
