use Rattle.translation.proofs.Going.{checked, refused_by_check}
use Rattle.request_translate.specs.Translation.{up}
use Rattle.request_translate.proofs.Translated.{fair}
use Rattle.request_translate.proofs.translate.Translator.check.Goals as goal

pub returns-clause-ok : goal.returns-clause-ok
returns-clause-ok c = checked up _ _ _ c.in_ok-split_into.ensures fair _ c.check_fields.ensures.ok

pub returns-clause-refused : goal.returns-clause-refused
returns-clause-refused c = refused_by_check up _ _ _ c.in_ok-split_into.ensures fair
    c.check_fields.result c.check_fields.ensures.refused
