use Rattle.std.proofs.Common.{sym}
use Rattle.request_rules.specs.Good.{said}
use Rattle.request_translate.proofs.GoodFields.{checked}
use Rattle.request_translate.proofs.checking.check_fields.Goals as goal

pub returns-in-None-clause-ok : goal.returns-in-None-clause-ok
returns-in-None-clause-ok c = checked c.args.split.now.fields c.args.split.now.fault
    (said c.in_ok-good.good) c.in_ok-good.ensures.read (sym c.in-None.ensures)
