use Rattle.std.proofs.Common.{refl}
use Rattle.request_rules.proofs.GoodFields.{good_is, read_is}
use Rattle.request_rules.proofs.reading.good_request.Goals as goal

pub returns-in-Ok-clause-good : goal.returns-in-Ok-clause-good
returns-in-Ok-clause-good c =
    good_is c.args.msg_type.now c.args.split.now.fields c.args.split.now.fault
    (record { table = c.in-Some.table; fields = c.in-Ok.fields }) _ refl c.in-Some.ensures
    c.in-Ok.ensures

pub returns-in-Ok-clause-read : goal.returns-in-Ok-clause-read
returns-in-Ok-clause-read c =
    read_is c.args.msg_type.now c.args.split.now.fields c.args.split.now.fault
    (record { table = c.in-Some.table; fields = c.in-Ok.fields }) _ refl c.in-Some.ensures
    c.in-Ok.ensures
