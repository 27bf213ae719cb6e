use Rattle.std.proofs.Common.{ap, ◌∙◌}
use Rattle.row_values.proofs.Texts.{if_positive, qty_said}
use Rattle.row_values.proofs.values.qty.Goals as goal

pub returns-in-None-clause-text : goal.returns-in-None-clause-text
returns-in-None-clause-text g c =
    ap if_positive c.in-None.ensures.value
    ∙ qty_said (g.F.Lookup.fields c.args.fields.now) c.args.tag

pub returns-in-Some-clause-text : goal.returns-in-Some-clause-text
returns-in-Some-clause-text g c =
    c.not_negative.ensures.text ∙ ap if_positive c.in-Some.ensures.value
    ∙ qty_said (g.F.Lookup.fields c.args.fields.now) c.args.tag
