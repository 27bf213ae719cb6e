use Rattle.std.proofs.Common.{option_map}
use Rattle.translate_fix44.proofs.Put.{told_fault, told_put}
use Rattle.translate_fix44.proofs.translate.put_report.Goals as goal

pub returns-in-Err-clause-refused : goal.returns-in-Err-clause-refused
returns-in-Err-clause-refused c =
    rw c.faulty.ensures (told_fault c.args.split.now.fields c.args.split.now.fault
    c.msg_type.result.now c.msg_type.ensures (option_map (λ id. id.now) c.args.known)
    c.in-Err.fault c.in-Err.ensures)

pub returns-in-Ok-put_down-clause-ok : goal.returns-in-Ok-put_down-clause-ok
returns-in-Ok-put_down-clause-ok c = told_put c.args.split.now.fields c.args.split.now.fault
    c.msg_type.result.now c.msg_type.ensures (option_map (λ id. id.now) c.args.known)
    c.in-Ok.fields c.in-Ok.ensures c.args.out.now.items c.put_down.new.out.items
    c.in-Ok-put_down.ensures.ok
