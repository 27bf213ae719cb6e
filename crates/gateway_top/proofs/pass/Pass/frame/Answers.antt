use Rattle.std.proofs.Common.{rules, ◌≡◌}
use Rattle.gateway_top.proofs.Answered.{said_down, said_down44, said_up, said_up44, told_44}
use Rattle.gateway_top.proofs.pass.Pass.frame.Goals as goal

pub returns-in-TranslateUp-clause-said : goal.returns-in-TranslateUp-clause-said
returns-in-TranslateUp-clause-said c =
    said_up _ _ _ _ _ _ _ _ c.translate.result c.in-TranslateUp.is c.part-body.ensures
    c.refused_by.ensures c.translate.ensures.ok c.translate.ensures.refused
    c.translate.ensures.err

pub returns-in-TranslateDown-clause-said : goal.returns-in-TranslateDown-clause-said
returns-in-TranslateDown-clause-said c =
    said_down _ _ _ _ _ _ _ _ c.translate-in-TranslateDown.result c.in-TranslateDown.is
    c.part-body.ensures c.refused_by-in-TranslateDown.ensures
    c.translate-in-TranslateDown.ensures.ok c.translate-in-TranslateDown.ensures.refused
    c.translate-in-TranslateDown.ensures.err

pub returns-in-TranslateUp44-clause-said : goal.returns-in-TranslateUp44-clause-said
returns-in-TranslateUp44-clause-said c =
    said_up44 _ _ _ _ _ _ _ _ c.translate-in-TranslateUp44.result c.in-TranslateUp44.is
    c.part-body.ensures c.refused_by-in-TranslateUp44.ensures
    c.translate-in-TranslateUp44.ensures.ok c.translate-in-TranslateUp44.ensures.refused
    c.translate-in-TranslateUp44.ensures.err

pub returns-in-TranslateDown44-clause-said : goal.returns-in-TranslateDown44-clause-said
returns-in-TranslateDown44-clause-said c =
    said_down44 _ _ _ _ _ _ _ _ c.translate-in-TranslateDown44.result c.in-TranslateDown44.is
    c.part-body.ensures c.refused_by-in-TranslateDown44.ensures
    c.translate-in-TranslateDown44.ensures.ok c.translate-in-TranslateDown44.ensures.refused
    c.translate-in-TranslateDown44.ensures.err

pub returns-in-CheckClient44-clause-said : goal.returns-in-CheckClient44-clause-said
returns-in-CheckClient44-clause-said c =
    let wide : c.from.result ≡ c.args.len = search rules in
    told_44 _ _ _ _ _ _ _ _ _ _ c.in-CheckClient44.is c.part-body.ensures wide
    c.in_ok-finding-in-CheckClient44.ensures c.in_ok-append_frame-in-CheckClient44.ensures
    c.refusal_at.ensures
