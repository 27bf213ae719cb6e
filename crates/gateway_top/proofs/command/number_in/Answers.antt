use Rattle.std.proofs.Common.{sym, ◌∙◌, arith}
use Rattle.gateway_top.proofs.Numbers.{no_number, not_between, some_number, bounds}
use Rattle.gateway_top.proofs.command.number_in.Goals as goal

pub returns-then-is_between-clause-number : goal.returns-then-is_between-clause-number
returns-then-is_between-clause-number c =
    let fits = c.ranges.most.fits in
    sym (some_number c.args.least c.args.most (omega (arith, fits)) c.args.word.now
    c.in-Ok.number (sym c.is_between.ensures ∙ c.if-is_between.true))

pub returns-then-is_between-clause-bounds : goal.returns-then-is_between-clause-bounds
returns-then-is_between-clause-bounds c =
    let fits = c.ranges.most.fits in
    bounds c.args.least c.args.most (omega (arith, fits)) c.args.word.now
    c.in-Ok.number (sym c.is_between.ensures ∙ c.if-is_between.true)

pub returns-else-is_between-clause-number : goal.returns-else-is_between-clause-number
returns-else-is_between-clause-number c =
    let fits = c.ranges.most.fits in
    sym (not_between c.args.least c.args.most (omega (arith, fits)) c.args.word.now
    c.parse.result c.in-Ok.number c.parse.ensures.value.0 c.in-Ok.is
    (sym c.is_between.ensures ∙ c.if-is_between.false))

pub returns-in-Err-clause-number : goal.returns-in-Err-clause-number
returns-in-Err-clause-number c =
    let fits = c.ranges.most.fits in
    sym (no_number c.args.least c.args.most (omega (arith, fits)) c.args.word.now
    c.parse.result _ c.parse.ensures.value.0 c.in-Err.is)
