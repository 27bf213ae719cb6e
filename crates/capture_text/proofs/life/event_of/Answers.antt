use Rattle.std.proofs.Common.{subst}
use Rattle.capture_text.specs.Line.{LineSays}
use Rattle.capture_text.proofs.Bytes.{not_both}
use Rattle.capture_text.proofs.Standing.{none_follows}
use Rattle.capture_text.proofs.life.event_of.Goals as goal

pub returns-then-not-may_stand : goal.returns-then-not-may_stand
returns-then-not-may_stand c = λ before are.
    let says = subst (LineSays c.args.line.now) c.in-Some.is c.in_ok-event.ensures in
    none_follows c.args.line.now before c.in-Some.event says
    (λ may. not_both c.may_stand.result c.if-not-may_stand.true
    ((c.may_stand.ensures before are says.1).1 may))
