use Rattle.std.proofs.Common.{rules}
use Rattle.std.proofs.lemmas.Result.{err_from_is_err_and}
use Rattle.translation.proofs.Bodies.{unwritten, written}
use Rattle.translation.proofs.Going.{refused_other, unwritten_other, written_other}
use Rattle.translation.proofs.translating.write.Goals as goal

pub returns-clause-ok : goal.returns-clause-ok
returns-clause-ok g c =
    let put = c.in_ok-put.ensures.ok in
    written_other (g.T.Translating.course c.args.by.now) c.args.split.now.fields
    c.args.split.now.fault put.gone _ _
    (written _ _ _ _ _ c.clear.ensures.items c.in_ok-put_head.ensures put.bytes c.len-head.result
    c.len-whole.result (search rules) (search rules) _ c.check_lengths.ensures.ok)

pub returns-clause-refused : goal.returns-clause-refused
returns-clause-refused g c =
    let d = g.T.Translating.course c.args.by.now in
    let put = c.in_ok-put.ensures.ok in
    unwritten_other d c.args.split.now.fields c.args.split.now.fault put.gone _
    (unwritten (d.head c.args.split.now.fields) _ _ _ _ c.clear.ensures.items
    c.in_ok-put_head.ensures put.bytes c.len-head.result c.len-whole.result (search rules)
    (search rules) _ c.check_lengths.ensures.long)

pub returns-in_err-put-clause-refused : goal.returns-in_err-put-clause-refused
returns-in_err-put-clause-refused g c =
    let p = err_from_is_err_and c.from_residual-in_err-put.result
    c.from_residual-in_err-put.ensures.1 in
    rw (p.1, p.2) (refused_other (g.T.Translating.course c.args.by.now) c.args.split.now.fields
    c.args.split.now.fault c.in_err-put.field-0.0 c.in_err-put.ensures.refused)
