use Rattle.std.proofs.lemmas.Result.{err_from_is_err_and}
use Rattle.structs_fix44.proofs.Down.{copied_says, report_down, report_lacks, report_stands}
use Rattle.structs_fix44.proofs.downward.down_report44.Goals as goal

pub returns-in_err-content-clause-lack : goal.returns-in_err-content-clause-lack
returns-in_err-content-clause-lack c =
    let p = err_from_is_err_and c.from_residual-in_err-content.result
    c.from_residual-in_err-content.ensures.1 in
    rw (p.1, p.2) (report_lacks c.args.msg.now c.requires.sound c.in_err-content.field-0.0
    (c.in_err-content.ensures.lack _ (copied_says c.deref.ensures.value
    c.in_ok-body.ensures)))

pub returns-in-Ok-clause-rules : goal.returns-in-Ok-clause-rules
returns-in-Ok-clause-rules c =
    report_down c.args.msg.now c.requires.sound
    (c.in_ok-content.ensures.ok _ (copied_says c.deref.ensures.value c.in_ok-body.ensures))
    c.deref-2.ensures.value c.in_ok-split.ensures c.in-Ok.report c.in-Ok.ensures.says
    c.in_ok-with_parties-in-Ok.field-0 c.in_ok-with_parties-in-Ok.ensures.is

pub returns-in-Ok-clause-stands : goal.returns-in-Ok-clause-stands
returns-in-Ok-clause-stands c =
    report_stands c.args.msg.now c.requires.sound
    (c.in_ok-content.ensures.ok _ (copied_says c.deref.ensures.value c.in_ok-body.ensures))
    c.deref-2.ensures.value c.in_ok-split.ensures c.in-Ok.report c.in-Ok.ensures.says
    c.in_ok-with_parties-in-Ok.field-0 c.in_ok-with_parties-in-Ok.ensures.is
