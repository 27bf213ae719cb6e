use Rattle.std.proofs.Common.{◌≡◌, rules, length, refl, sym, subst}
use Rattle.wires.specs.Wire.{Poll, Broken, came_by}
use Rattle.wires.specs.Script.{next_of, rest_of}
use Rattle.wires.specs.MemWire.{WireState, PlaysTo, plays}
use Rattle.wires.specs.declared.wire.TheConstants.{POLL_LEN}
use Rattle.wires.proofs.Playing.{noting, polling}
use Rattle.wires.proofs.mem_wire.MemWireWire.poll.Goals as goal

pub returns-in-Err-clause-plays : goal.returns-in-Err-clause-plays
returns-in-Err-clause-plays c = λ room script played. noting _ _ (Poll Broken) c.note_poll.result
    script c.self.invariant c.note_poll.ensures.ok c.note_poll.ensures.err refl
    (subst (λ (w : WireState). plays w script) (sym c.self.view_is) played)

pub returns-clause-plays : goal.returns-clause-plays
returns-clause-plays c = λ room script played.
    let long : length c.give-arrived.new.buf ≡ POLL_LEN = search (rules, room) in
    let left = c.advance.new.self in
    let came = subst (λ n. came_by c.give-arrived.result c.give-arrived.new.buf
    ≡ next_of c.self.inside.within n c.self.inside.play) room c.give-arrived.ensures.came in
    let rest = subst (λ (w : WireState). left ≡ rest_of c.self.inside.within POLL_LEN w.script)
    c.self-2.view_is (subst (λ n. left ≡ rest_of c.self.inside.within n c.self-2.inside.play)
    long c.advance.ensures) in
    subst (λ (w : WireState). PlaysTo w script left) (sym c.self-2.view_is)
    (polling _ c.note_poll-2.new.self c.give-arrived.result c.give-arrived.new.buf
    c.note_poll-2.result script left c.self.invariant came c.note_poll-2.ensures.ok
    c.note_poll-2.ensures.err rest
    (subst (λ (w : WireState). plays w script) (sym c.self.view_is) played))
