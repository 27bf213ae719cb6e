use Rattle.std.proofs.Common.{◌≡◌, ◌∙◌, sym, ap, subst}
use Rattle.wires.specs.Wire.{came_by}
use Rattle.wires.specs.Script.{next_of}
use Rattle.wires.specs.MemWire.{WireState, plays}
use Rattle.capture_replay.specs.Rounds.{script_of}
use Rattle.capture_replay.proofs.Coming.{goes_on}
use Rattle.capture_replay.proofs.Playing.{polled, failing}
use Rattle.capture_replay.proofs.wire.LifeWireWire.poll.Goals as goal

pub returns-in-Ok-clause-plays : goal.returns-in-Ok-clause-plays
returns-in-Ok-clause-plays c = λ room script played.
    let wire = c.self.inside in
    let left = script_of wire.side wire.lines in
    let came = subst (λ n. came_by c.in-Ok.arrived c.next.new.buf ≡ next_of wire.within n left) room
    c.in-Ok.ensures.came in
    polled (record {
      script = left;
      recorded = wire.told;
      within = wire.within;
      calls = wire.calls;
      polls = wire.polls;
    }) c.next.new.self script c.self.invariant.inside c.in-Ok.arrived c.next.new.buf _ came
    (goes_on wire.within wire.side wire.lines c.self.invariant.bounded) c.in-Ok.ensures.ok
    (subst (λ (w : WireState). plays w script) (sym c.self.view_is) played)

pub returns-in-Err-clause-cause : goal.returns-in-Err-clause-cause
returns-in-Err-clause-cause c =
    failing c.args.self.now.calls.faults c.next.new.self c.lose.new.self c.lose.result
    (ap (λ (w : WireState). w.calls.faults) c.in-Err.ensures.err
    ∙ ap (λ (w : WireState). w.calls.faults) c.self.view_is)
    c.lose.ensures.lost c.lose.ensures.later
