use Rattle.request_rules.proofs.GoodFields.{good_is, read_is}
use Rattle.request_rules.proofs.reading.good_request_by.Goals as goal

pub returns-in-Ok-clause-good : goal.returns-in-Ok-clause-good
returns-in-Ok-clause-good c =
    good_is c.args.msg_type.now c.args.split.now.fields c.args.split.now.fault
    (record { table = c.table.result; fields = c.in-Ok.fields }) _ c.table.ensures
    c.in-Some.ensures c.in-Ok.ensures

pub returns-in-Ok-clause-read : goal.returns-in-Ok-clause-read
returns-in-Ok-clause-read c =
    read_is c.args.msg_type.now c.args.split.now.fields c.args.split.now.fault
    (record { table = c.table.result; fields = c.in-Ok.fields }) _ c.table.ensures
    c.in-Some.ensures c.in-Ok.ensures
