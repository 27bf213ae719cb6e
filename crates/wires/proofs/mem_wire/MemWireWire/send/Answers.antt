use Rattle.std.proofs.Common.{rules, refl, sym, subst}
use Rattle.wires.specs.declared.mem_wire.TheConstants.{FAILED_SEND_LEN}
use Rattle.wires.specs.MemWire.{WireState, plays}
use Rattle.wires.proofs.Playing.{noting}
use Rattle.wires.proofs.mem_wire.MemWireWire.send.Goals as goal

pub returns-in-Err-clause-grows : goal.returns-in-Err-clause-grows
returns-in-Err-clause-grows c = (FAILED_SEND_LEN, search rules)

pub returns-in-Err-clause-plays : goal.returns-in-Err-clause-plays
returns-in-Err-clause-plays c = λ script played. noting _ _ _ c.note_send.result
    script c.self.invariant c.note_send.ensures.ok c.note_send.ensures.err refl
    (subst (λ (w : WireState). plays w script) (sym c.self.view_is) played)

pub returns-clause-plays : goal.returns-clause-plays
returns-clause-plays c = λ script played. noting _ _ _ c.note_send-2.result
    script c.self.invariant c.note_send-2.ensures.ok c.note_send-2.ensures.err refl
    (subst (λ (w : WireState). plays w script) (sym c.self.view_is) played)
