use Rattle.translate_fix44.proofs.Put.{is_lacking}
use Rattle.translate_fix44.proofs.translate.check_request.Goals as goal

pub returns-clause-refused : goal.returns-clause-refused
returns-clause-refused c = is_lacking c.args.split.now.fields c.args.split.now.fault
    c.in-Ok.source c.in-Ok.ensures.read c.in-Ok.ensures.same c.in-Some.tag c.in-Some.ensures
