use Rattle.std.proofs.Common.{sym}
use Rattle.message_tables.proofs.Loops.{first_ended, first_found, first_none, first_passed}
use Rattle.rule_rows.specs.CodeRules.{lacked}
use Rattle.rule_rows.proofs.lacks.first_lack.Goals as goal

pub loop-rule-init : goal.loop-rule-init
loop-rule-init g c = first_none (lacked g.O.Lacking.lacks c.args.source.now)

pub loop-rule-preserved : goal.loop-rule-preserved
loop-rule-preserved g c = first_passed (lacked g.O.Lacking.lacks c.args.source.now)
    c.args.rules.now c.loop-rule.rule-index c.rule-item.result c.rule-item.is
    c.loop-rule-test.true c.loop-rule.invariant (sym c.in_default.ensures)

pub returns-in-Some : goal.returns-in-Some
returns-in-Some g c = sym (first_found (lacked g.O.Lacking.lacks c.args.source.now)
    c.args.rules.now c.loop-rule.rule-index c.rule-item.result c.in-Some.tag c.rule-item.is
    c.loop-rule-test.true c.loop-rule.invariant (sym c.in-Some.ensures))

pub returns : goal.returns
returns g c = sym (first_ended (lacked g.O.Lacking.lacks c.args.source.now) c.args.rules.now
    c.loop-rule.rule-index c.loop-rule-test.false c.loop-rule.invariant)
