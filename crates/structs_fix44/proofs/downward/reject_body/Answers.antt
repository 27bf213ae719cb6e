use Rattle.structs_fix44.proofs.Down.{reject_said}
use Rattle.structs_fix44.proofs.downward.reject_body.Goals as goal

pub returns : goal.returns
returns c =
    reject_said c.args.msg.now c.requires.sound c.new-body.ensures.items
    c.in_ok-put_field.ensures.done c.in_ok-write_cancel_reject.ensures.ok
