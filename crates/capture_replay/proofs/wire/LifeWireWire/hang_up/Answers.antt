use Rattle.std.proofs.Common.{◌≡◌, refl, subst, IfSome}
use Rattle.wires.specs.Wire.{is_within}
use Rattle.wires.specs.MemWire.{WireState}
use Rattle.wires.proofs.Playing.{noting}
use Rattle.capture_replay.proofs.wire.LifeWireWire.hang_up.Goals as goal

pub returns-then-self-clause-plays : goal.returns-then-self-clause-plays
returns-then-self-clause-plays c = λ script. noting c.args.self.now _ _ c.note.result script
    (subst (λ (w : WireState). IfSome w.recorded (λ calls. w.within ≡ is_within calls))
    c.self.view_is c.self.invariant.inside) c.note.ensures.ok c.note.ensures.err refl
