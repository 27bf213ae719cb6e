use Rattle.std.proofs.Common.{ap, ◌∙◌}
use Rattle.row_values.proofs.Texts.{if_reason, reason_said}
use Rattle.row_values.proofs.values.reason.Goals as goal

pub returns-in-None-clause-text : goal.returns-in-None-clause-text
returns-in-None-clause-text g c =
    ap if_reason c.in-None.ensures.value
    ∙ reason_said (g.F.Lookup.fields c.args.fields.now) c.args.tag

pub returns-in-Some-clause-text : goal.returns-in-Some-clause-text
returns-in-Some-clause-text g c =
    c.not_past_reasons.ensures.text ∙ ap if_reason c.in-Some.ensures.value
    ∙ reason_said (g.F.Lookup.fields c.args.fields.now) c.args.tag
