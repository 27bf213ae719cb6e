use Rattle.structs_fix44.proofs.Typed.{by_the_rules, stands_up}
use Rattle.structs_fix44.proofs.upward.up44.Goals as goal

pub returns-in-Ok-clause-rules : goal.returns-in-Ok-clause-rules
returns-in-Ok-clause-rules c =
    by_the_rules c.args.msg.now c.requires.sound c.in_ok-content.ensures.ok c.deref.ensures.value
    c.type44.ensures c.in_ok-split.ensures c.in-Ok.request c.set_resend.new.msg c.resend.result
    c.in-Ok.ensures.says c.set_resend.ensures.says c.resend.ensures

pub returns-in-Ok-clause-stands : goal.returns-in-Ok-clause-stands
returns-in-Ok-clause-stands c =
    stands_up c.args.msg.now c.requires.sound c.in_ok-content.ensures.ok c.deref.ensures.value
    c.type44.ensures c.in_ok-split.ensures c.in-Ok.request c.set_resend.new.msg c.resend.result
    c.in-Ok.ensures.says c.set_resend.ensures.says c.resend.ensures
