use Rattle.translation.proofs.Going.{checked, refused_by_check}
use Rattle.translate_fix44.specs.Translation.{up}
use Rattle.translate_fix44.proofs.Fair.{fair}
use Rattle.translate_fix44.specs.declared.translate.Way.TheVariants.{Up}
use Rattle.translate_fix44.proofs.translate.Translator44.check.Goals as goal

pub returns-clause-ok : goal.returns-clause-ok
returns-clause-ok c =
    checked up _ _ _ c.in_ok-split_into.ensures (fair Up) _ c.check_request.ensures.ok

pub returns-clause-refused : goal.returns-clause-refused
returns-clause-refused c = refused_by_check up _ _ _ c.in_ok-split_into.ensures (fair Up)
    c.check_request.result c.check_request.ensures.refused
