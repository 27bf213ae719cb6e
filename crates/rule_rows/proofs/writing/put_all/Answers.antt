use Rattle.std.proofs.Transfers.{starts_with_trans}
use Rattle.std.proofs.lemmas.Result.{err_from_is_err_and}
use Rattle.rule_rows.specs.CodeRules.{lacked, writes}
use Rattle.rule_rows.proofs.Steps.{lack_found, next_said, next_written, none_left}
use Rattle.rule_rows.proofs.writing.put_all.Goals as goal

pub loop-rest-preserved : goal.loop-rest-preserved
loop-rest-preserved g c = record {
  written = next_written c.loop-rest.rest.now c.rule-item.result c.in-len1-up.len_at_least
      c.rule-item.is (writes g.O.OwnRule.writes c.args.source.now) _ c.loop-rest.out.items
      c.put_rule.new.out.items c.loop-rest.invariant.written c.in_ok-put_rule.ensures.done;
  said = next_said c.loop-rest.rest.now c.rule-item.result c.in-len1-up.len_at_least
      c.rule-item.is (lacked g.O.OwnRule.lacks c.args.source.now) _
      c.loop-rest.invariant.said c.in_ok-put_rule.ensures.said;
  kept = starts_with_trans c.put_rule.new.out.items c.loop-rest.out.items c.args.out.now.items
      c.in_ok-put_rule.ensures.kept c.loop-rest.invariant.kept;
}

pub returns-in_err-put_rule-clause-lack : goal.returns-in_err-put_rule-clause-lack
returns-in_err-put_rule-clause-lack g c =
    let p = err_from_is_err_and c.from_residual.result c.from_residual.ensures.1 in
    rw (p.1, p.2) (lack_found c.loop-rest.rest.now c.rule-item.result c.in-len1-up.len_at_least
    c.rule-item.is (lacked g.O.OwnRule.lacks c.args.source.now) _ c.loop-rest.invariant.said
    c.in_err-put_rule.field-0.0 c.in_err-put_rule.ensures.lack)

pub returns-in_err-put_rule-clause-kept : goal.returns-in_err-put_rule-clause-kept
returns-in_err-put_rule-clause-kept g c =
    starts_with_trans c.put_rule.new.out.items c.loop-rest.out.items c.args.out.now.items
    c.put_rule.ensures.kept c.loop-rest.invariant.kept

pub returns-clause-said : goal.returns-clause-said
returns-clause-said g c = none_left (lacked g.O.OwnRule.lacks c.args.source.now)
    c.loop-rest.rest.now _ c.in_default.len_below c.loop-rest.invariant.said
