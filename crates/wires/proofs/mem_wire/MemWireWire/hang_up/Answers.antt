use Rattle.std.proofs.Common.{◌≡◌, rules, false, sym, subst}
use Rattle.std.specs.Prelude.{IfSome}
use Rattle.wires.specs.Wire.{is_within}
use Rattle.wires.specs.MemWire.{WireState, plays, hung_up}
use Rattle.wires.proofs.Playing.{hanging_up}
use Rattle.wires.proofs.mem_wire.MemWireWire.hang_up.Goals as goal

pub returns-clause-plays : goal.returns-clause-plays
returns-clause-plays c = λ script played.
    let done : record {
      script = c.match-self.self-inside.play;
      recorded = c.match-self.self-inside.told;
      within = false;
      calls = c.match-self.self-inside.calls;
      polls = c.match-self.self-inside.polls;
    } ≡ hung_up c.args.self.now = search rules in
    subst (λ (w : WireState). plays w script) (sym done)
    (hanging_up c.args.self.now script (subst (λ (w : WireState).
    IfSome w.recorded (λ calls. w.within ≡ is_within calls)) c.self.view_is c.self.invariant)
    played)
