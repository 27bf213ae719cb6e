use Rattle.std.proofs.Common.{sym, ◌∙◌}
use Rattle.kept_entries.proofs.Finding.{among_none, among_here, among_behind}
use Rattle.kept_entries.proofs.given.+out_among.Goals as goal

pub returns-in_default-clause-finds : goal.returns-in_default-clause-finds
returns-in_default-clause-finds t c = λ outs rest are size is.
    absurd (among_none c.args.side c.args.number c.args.count c.if-count-eq0.false
    c.args.bytes.now c.in_default.ensures outs rest are size is)

pub returns-then-is_of-clause-finds : goal.returns-then-is_of-clause-finds
returns-then-is_of-clause-finds t c = λ outs rest are size is.
    among_here c.args.side c.args.number c.args.count c.if-count-eq0.false c.args.bytes.now
    c.in-Some.out c.in-Some.rest.now c.in-Some.ensures.0 c.in-Some.ensures.1
    outs rest are size is (sym c.is_of.ensures ∙ c.if-is_of.true)

pub returns-clause-finds : goal.returns-clause-finds
returns-clause-finds t c = λ outs rest are size is.
    among_behind c.args.side c.args.number c.args.count c.if-count-eq0.false c.args.bytes.now
    c.in-Some.out c.in-Some.rest.now c.in-Some.ensures.0 c.in-Some.ensures.1
    _ c.out_among.ensures.finds outs rest are size is (sym c.is_of.ensures ∙ c.if-is_of.false)
