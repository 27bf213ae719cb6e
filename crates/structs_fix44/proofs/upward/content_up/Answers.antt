use Rattle.structs_fix44.proofs.Typed.{is_up, up_lacks}
use Rattle.structs_fix44.proofs.upward.content_up.Goals as goal

pub returns-in-Ok-clause-ok : goal.returns-in-Ok-clause-ok
returns-in-Ok-clause-ok c =
    is_up c.args.msg.now c.requires.sound c.type44.ensures c.new-body.ensures.items
    c.in_ok-put_field.ensures.done c.in_ok-write44.ensures.ok c.deref.ensures.value
    c.in_ok-split.ensures c.new-up.result.items c.put_request.new.out.items c.new-up.ensures.items
    c.in-Ok.ensures.ok

pub returns-in-Err-Lacking-clause-lack : goal.returns-in-Err-Lacking-clause-lack
returns-in-Err-Lacking-clause-lack c =
    up_lacks c.args.msg.now c.requires.sound c.type44.ensures c.new-body.ensures.items
    c.in_ok-put_field.ensures.done c.in_ok-write44.ensures.ok c.deref.ensures.value
    c.in_ok-split.ensures c.in-Err-Lacking.tag
    (rw c.in-Err-Lacking.field-0-is at c.in-Err-Lacking.ensures.refused)
