use Rattle.std.proofs.Common.{ℕ, ◌<◌, ◌^◌, ◌-◌, slice_range, arith}
use Rattle.std.proofs.lemmas.List.{length-take}
use Rattle.typed_fields.specs.Digits.{number_of}
use Rattle.typed_fields.proofs.DigitsLemmas.{number_of-lt}
use Rattle.typed_fields.proofs.digits.number_at.Goals as goal

pub overflow_cast-result : goal.overflow_cast-result
overflow_cast-result c =
    let part = slice_range c.args.bytes.now c.args.from c.args.to in
    let small : number_of part < 10 ^ 4 =
    number_of-lt part 4 c.requires.digits (omega (arith, length-take {A = ℕ})) in
    omega arith

pub returns-clause-bound : goal.returns-clause-bound
returns-clause-bound c =
    let part = slice_range c.args.bytes.now c.args.from c.args.to in
    rw c.number.ensures (number_of-lt
    part (c.args.to - c.args.from) c.requires.digits (omega (arith, length-take {A = ℕ})))
