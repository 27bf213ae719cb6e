use Rattle.std.proofs.Common.{◌∙◌, arith}
use Rattle.typed_fields.proofs.StampLaws.{read_long, read_short, short_in_bound}
use Rattle.typed_fields.proofs.stamp.Stamp.read.Goals as goal

pub returns-then-value-gt21-clause-value : goal.returns-then-value-gt21-clause-value
returns-then-value-gt21-clause-value c = read_long c.args.value.now c.if-value-gt21.true

pub returns-clause-value : goal.returns-clause-value
returns-clause-value c =
    let short = c.if-value-gt21.false in
    c.read_fine.ensures.value ∙ read_short c.args.value.now (omega (arith, short))

pub returns-clause-bound : goal.returns-clause-bound
returns-clause-bound c =
    let short = c.if-value-gt21.false in
    short_in_bound c.args.value.now c.read_fine.result (omega (arith, short))
    c.read_fine.ensures.value c.read_fine.ensures.bound
