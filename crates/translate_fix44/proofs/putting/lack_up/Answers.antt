use Rattle.std.specs.Prelude.{None, Some}
use Rattle.std.proofs.Common.{◌∙◌, refl}
use Rattle.translate_fix44.proofs.Put.{lack_told}
use Rattle.translate_fix44.proofs.putting.lack_up.Goals as goal

pub returns-in-None : goal.returns-in-None
returns-in-None c =
    let rules = c.request_rules in
    lack_told c.args.source.now c.requires rules.result.all.now rules.ensures.all None
    c.lack_of_roles.result (c.in-None.ensures ∙ rules.ensures.lacking c.args.source.now)
    c.lack_of_roles.ensures

pub returns-in-Some : goal.returns-in-Some
returns-in-Some c =
    let rules = c.request_rules in
    lack_told c.args.source.now c.requires rules.result.all.now rules.ensures.all
    (Some c.in-Some.tag) _ (c.in-Some.ensures ∙ rules.ensures.lacking c.args.source.now) refl
