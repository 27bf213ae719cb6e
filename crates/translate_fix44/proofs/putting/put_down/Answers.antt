use Rattle.std.proofs.Common.{ap, false, refl, sym, true}
use Rattle.reports_fix50.proofs.Few.{few_parties}
use Rattle.reports_fix50.specs.Message.{cancel_reject_table, report_table}
use Rattle.rule_rows.specs.Rows.{have_written_lines}
use Rattle.rule_rows.specs.Rules.{By}
use Rattle.translate_fix44.specs.CodeRules.{known_of, source_of}
use Rattle.translate_fix44.specs.Rules.{Else, Same, down_rules}
use Rattle.translate_fix44.specs.Translation.{down_by}
use Rattle.translate_fix44.proofs.Known.{known_reject, known_report}
use Rattle.translate_fix44.proofs.Put.{eight, nine, on_err, on_ok}
use Rattle.translate_fix44.proofs.putting.put_down.Goals as goal

pub read_lines-requires : goal.read_lines-requires
read_lines-requires c =
    few_parties c.args.fields.now (eight c.args.fields.now c.requires c.msg_type.result.now
    c.msg_type.ensures (sym c.if-is_type.ensures)).1

pub put_rules-requires : goal.put_rules-requires
put_rules-requires c = ap (λ t. have_written_lines t.items) c.execution_report.ensures

pub put_rules-requires-else-is_type : goal.put_rules-requires-else-is_type
put_rules-requires-else-is_type c =
    ap (λ t. have_written_lines t.items) c.cancel_reject.ensures

pub returns-in_ok-parties-clause-ok : goal.returns-in_ok-parties-clause-ok
returns-in_ok-parties-clause-ok c =
    let s = source_of c.args.fields c.execution_report.result c.in_ok-parties.parties true
    c.args.known in
    let is = eight c.args.fields.now c.requires c.msg_type.result.now c.msg_type.ensures
    (sym c.if-is_type.ensures) in
    on_ok s report_table c.execution_report.ensures _
    (known_report s c.in_ok-parties.ensures is.1 refl) (down_rules (Same 41)) _
    (c.report_rules.ensures (known_of s)) (down_by (known_of s)) is.0 refl refl c.put_rules.result _ _ c.put_rules.ensures.said
    c.put_rules.ensures.done

pub returns-in_ok-parties-clause-lack : goal.returns-in_ok-parties-clause-lack
returns-in_ok-parties-clause-lack c =
    let s = source_of c.args.fields c.execution_report.result c.in_ok-parties.parties true
    c.args.known in
    let is = eight c.args.fields.now c.requires c.msg_type.result.now c.msg_type.ensures
    (sym c.if-is_type.ensures) in
    on_err s report_table c.execution_report.ensures _
    (known_report s c.in_ok-parties.ensures is.1 refl) (down_rules (Same 41)) _
    (c.report_rules.ensures (known_of s)) (down_by (known_of s)) is.0 refl refl c.put_rules.result c.put_rules.ensures.lack

pub returns-else-is_type-clause-ok : goal.returns-else-is_type-clause-ok
returns-else-is_type-clause-ok c =
    let s = source_of c.args.fields c.cancel_reject.result c.new.result false c.args.known in
    let is = nine c.args.fields.now c.requires c.msg_type.result.now c.msg_type.ensures
    (sym c.if-is_type.ensures) in
    on_ok s cancel_reject_table c.cancel_reject.ensures _ (known_reject s is.1 refl)
    (down_rules (By (Else 41 (known_of s)))) _ (c.reject_rules.ensures (known_of s))
    (down_by (known_of s)) is.0 refl refl
    c.put_rules-else-is_type.result _ _ c.put_rules-else-is_type.ensures.said
    c.put_rules-else-is_type.ensures.done

pub returns-else-is_type-clause-lack : goal.returns-else-is_type-clause-lack
returns-else-is_type-clause-lack c =
    let s = source_of c.args.fields c.cancel_reject.result c.new.result false c.args.known in
    let is = nine c.args.fields.now c.requires c.msg_type.result.now c.msg_type.ensures
    (sym c.if-is_type.ensures) in
    on_err s cancel_reject_table c.cancel_reject.ensures _ (known_reject s is.1 refl)
    (down_rules (By (Else 41 (known_of s)))) _ (c.reject_rules.ensures (known_of s))
    (down_by (known_of s)) is.0 refl refl
    c.put_rules-else-is_type.result c.put_rules-else-is_type.ensures.lack
