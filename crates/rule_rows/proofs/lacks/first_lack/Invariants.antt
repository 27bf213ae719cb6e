use Rattle.std.proofs.Common.{◌≡◌, None, take}
use Rattle.message_tables.specs.Tables.{first_of}
use Rattle.rule_rows.specs.CodeRules.{lacked}
use Rattle.rule_rows.proofs.lacks.first_lack.Given as goal

abbrev pub invariant-loop-rule : goal.invariant-loop-rule
invariant-loop-rule g l =
    first_of (lacked g.O.Lacking.lacks l.source) (take l.rule-index l.rules) ≡ None
