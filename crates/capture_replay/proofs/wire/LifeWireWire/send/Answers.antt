use Rattle.std.proofs.Common.{◌≡◌, rules, refl, subst, IfSome}
use Rattle.wires.specs.Wire.{is_within}
use Rattle.wires.specs.MemWire.{WireState}
use Rattle.wires.proofs.Playing.{noting}
use Rattle.capture_replay.proofs.Playing.{failing}
use Rattle.capture_replay.proofs.wire.LifeWireWire.send.Goals as goal

pub returns-in-Ok-clause-plays : goal.returns-in-Ok-clause-plays
returns-in-Ok-clause-plays c = λ script. noting c.args.self.now _ _ c.note.result script
    (subst (λ (w : WireState). IfSome w.recorded (λ calls. w.within ≡ is_within calls))
    c.self.view_is c.self.invariant.inside) c.note.ensures.ok c.note.ensures.err refl

pub returns-in-Err-clause-cause : goal.returns-in-Err-clause-cause
returns-in-Err-clause-cause c =
    let same : c.note.new.self.calls.faults ≡ c.args.self.now.calls.faults = search rules in
    failing c.args.self.now.calls.faults c.note.new.self c.lose.new.self c.lose.result same
    c.lose.ensures.lost c.lose.ensures.later
