use Rattle.std.proofs.Common.{None}
use Rattle.std.proofs.lemmas.Result.{err_from_is_err_and}
use Rattle.report_rules.specs.Down.{Reports50}
use Rattle.report_rules.proofs.GoDown.{goes_down}
use Rattle.exec_translate.proofs.Shell.{report_content, report_goes, report_lacks}
use Rattle.exec_translate.proofs.downward.down_report.Goals as goal

pub content_down-requires : goal.content_down-requires
content_down-requires c =
    (report_content c.args.msg.now c.requires.sound c.new-content.ensures.items
    c.in_ok-write_without_parties.ensures.ok c.deref.ensures.value).0

pub returns-in_err-down-clause-lack : goal.returns-in_err-down-clause-lack
returns-in_err-down-clause-lack c =
    let p = err_from_is_err_and c.from_residual-in_err-down.result
    c.from_residual-in_err-down.ensures.1 in
    let content = report_content c.args.msg.now c.requires.sound c.new-content.ensures.items
    c.in_ok-write_without_parties.ensures.ok c.deref.ensures.value in
    rw (p.1, p.2) (report_lacks c.args.msg.now c.in_err-down.field-0.0
    (c.in_err-down.ensures.lack _ content.1))

pub returns-in-Ok-clause-rules : goal.returns-in-Ok-clause-rules
returns-in-Ok-clause-rules c =
    let content = report_content c.args.msg.now c.requires.sound c.new-content.ensures.items
    c.in_ok-write_without_parties.ensures.ok c.deref.ensures.value in
    report_goes c.args.msg.now c.requires.sound (c.in_ok-down.ensures.ok _ content.1)
    c.deref-2.ensures.value c.in_ok-split.ensures c.in-Ok.report
    c.in_ok-with_parties-in-Ok.field-0 c.in-Ok.ensures.says c.in_ok-with_parties-in-Ok.ensures.is

pub returns-in-Ok-clause-stands : goal.returns-in-Ok-clause-stands
returns-in-Ok-clause-stands c =
    goes_down None tt _ _ (Reports50 c.requires.sound) (returns-in-Ok-clause-rules c)
