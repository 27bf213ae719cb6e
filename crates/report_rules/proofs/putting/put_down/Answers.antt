use Rattle.std.proofs.Common.{ap, sym}
use Rattle.reports_fix50.proofs.Few.{few_parties}
use Rattle.rule_rows.specs.Rows.{have_written_lines}
use Rattle.report_rules.specs.CodeRules.{source_of}
use Rattle.report_rules.proofs.PutDown.{good_eight, lacking, puts, reject_ruled, report_ruled}
use Rattle.report_rules.proofs.putting.put_down.Goals as goal

pub read_lines-requires : goal.read_lines-requires
read_lines-requires c = few_parties c.args.fields.now
    (good_eight c.args.msg_type.now c.args.fields.now c.requires (sym c.if-is_type.ensures))

pub put_rules-requires : goal.put_rules-requires
put_rules-requires c = ap (λ t. have_written_lines t.items) c.execution_report.ensures

pub put_rules-requires-else-is_type : goal.put_rules-requires-else-is_type
put_rules-requires-else-is_type c =
    ap (λ t. have_written_lines t.items) c.cancel_reject.ensures

pub returns-in_ok-parties-clause-ok : goal.returns-in_ok-parties-clause-ok
returns-in_ok-parties-clause-ok c =
    let s = source_of c.args.fields c.execution_report.result c.report_codes.result
    c.in_ok-parties.parties c.args.known in
    puts _ s _ (report_ruled c.args.msg_type.now s c.report_rules.result.now c.requires
    (sym c.if-is_type.ensures) c.execution_report.ensures c.in_ok-parties.ensures
    c.report_codes.ensures c.report_rules.ensures)
    c.put_rules.result _ _ c.put_rules.ensures.said c.put_rules.ensures.done

pub returns-in_ok-parties-clause-lack : goal.returns-in_ok-parties-clause-lack
returns-in_ok-parties-clause-lack c =
    let s = source_of c.args.fields c.execution_report.result c.report_codes.result
    c.in_ok-parties.parties c.args.known in
    lacking _ s _ (report_ruled c.args.msg_type.now s c.report_rules.result.now c.requires
    (sym c.if-is_type.ensures) c.execution_report.ensures c.in_ok-parties.ensures
    c.report_codes.ensures c.report_rules.ensures) c.put_rules.result c.put_rules.ensures.lack

pub returns-else-is_type-clause-ok : goal.returns-else-is_type-clause-ok
returns-else-is_type-clause-ok c =
    let s = source_of c.args.fields c.cancel_reject.result c.reject_codes.result c.new.result
    c.args.known in
    puts _ s _ (reject_ruled c.args.msg_type.now s c.reject_rules.result.now c.requires
    (sym c.if-is_type.ensures) c.cancel_reject.ensures c.reject_codes.ensures
    c.reject_rules.ensures) c.put_rules-else-is_type.result _ _
    c.put_rules-else-is_type.ensures.said c.put_rules-else-is_type.ensures.done

pub returns-else-is_type-clause-lack : goal.returns-else-is_type-clause-lack
returns-else-is_type-clause-lack c =
    let s = source_of c.args.fields c.cancel_reject.result c.reject_codes.result c.new.result
    c.args.known in
    lacking _ s _ (reject_ruled c.args.msg_type.now s c.reject_rules.result.now c.requires
    (sym c.if-is_type.ensures) c.cancel_reject.ensures c.reject_codes.ensures
    c.reject_rules.ensures) c.put_rules-else-is_type.result c.put_rules-else-is_type.ensures.lack
