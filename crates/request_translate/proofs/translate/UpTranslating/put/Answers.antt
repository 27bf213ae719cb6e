use Rattle.request_rules.specs.Good.{said}
use Rattle.request_translate.proofs.GoodFields.{appends}
use Rattle.request_translate.proofs.translate.UpTranslating.put.Goals as goal

pub returns-in-Ok-clause-ok : goal.returns-in-Ok-clause-ok
returns-in-Ok-clause-ok c =
    appends c.args.split.now.fields c.args.split.now.fault (said c.in_ok-good.good)
    c.in_ok-good.ensures.read c.args.out.now.items c.put_up.new.out.items c.in-Ok.ensures.ok
