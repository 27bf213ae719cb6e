use Rattle.translate_fix44.proofs.translate.GoingTranslating.put.Goals as goal

pub returns-in-Down-clause-ok : goal.returns-in-Down-clause-ok
returns-in-Down-clause-ok c = rw c.in-Down.is c.put_report.ensures.ok
