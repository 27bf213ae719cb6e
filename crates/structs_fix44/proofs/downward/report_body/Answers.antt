use Rattle.structs_fix44.proofs.Down.{report_said}
use Rattle.structs_fix44.proofs.downward.report_body.Goals as goal

pub returns : goal.returns
returns c =
    report_said c.args.msg.now c.requires.sound c.new-body.ensures.items
    c.in_ok-put_field.ensures.done c.in_ok-write_without_parties.ensures.ok
