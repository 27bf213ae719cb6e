use Rattle.std.proofs.Common.{refl, ◌∷◌, Ok, []}
use Rattle.wires.specs.Wire as wire
use Rattle.wires.specs.Wire.{came_of}
use Rattle.event_decisions.specs.Event.{Tick}
use Rattle.life_laws.specs.Turn.{events_of}
use Rattle.gateway_life.specs.Dealt.{around}
use Rattle.gateway_life.specs.Stepped.{records}
use Rattle.gateway_life.specs.State.{seen}
use Rattle.gateway_life.proofs.Dealing.{dealt_append, dealt_quiet, dealt_nothing}
use Rattle.gateway_life.proofs.Turning.{arrived_alone}
use Rattle.gateway_life.proofs.Polling.{turn_over, turn_part}
use Rattle.gateway_life.proofs.NewDay.{ready_same}
use Rattle.gateway_life.proofs.turn.turn.Goals as goal

pub tick-requires-clause-ready : goal.tick-requires-clause-ready
tick-requires-clause-ready g c = c.in_ok-arrived.ensures.dealt.2.kept.ready

pub returns-in_err-arrived-clause-turn : goal.returns-in_err-arrived-clause-turn
returns-in_err-arrived-clause-turn g c =
    let poll = c.poll-found in
    let r0 = records (g.C.Wire.recorded c.args.client.now) (g.V.Wire.recorded c.args.venue.now) in
    let r1 = records (g.C.Wire.recorded poll.new.client) (g.V.Wire.recorded poll.new.venue) in
    let arrived = c.in_err-arrived.ensures.dealt in
    turn_part _ _ _ (seen c.args.engine.now) (seen poll.new.engine) (g.D.Disk.bytes c.args.disk.now)
    (g.D.Disk.image c.args.disk.now) (g.D.Disk.faults c.args.disk.now) r0 r1 c.args.side
    (came_of poll.result poll.new.buf) c.args.now c.args.framer.now c.requires.ready.ready
    poll.ensures.same.0 poll.ensures.same.1 poll.ensures.world poll.ensures.grew poll.ensures.may
    poll.ensures.client_agrees poll.ensures.venue_agrees
    c.from_residual.result c.in_err-arrived.field-0.0 _ c.arrived.new.framer arrived.0
    c.from_residual.ensures.1 arrived.1 arrived.2

pub returns-clause-turn : goal.returns-clause-turn
returns-clause-turn g c =
    let poll = c.poll-found in
    let r0 = records (g.C.Wire.recorded c.args.client.now) (g.V.Wire.recorded c.args.venue.now) in
    let r1 = records (g.C.Wire.recorded poll.new.client) (g.V.Wire.recorded poll.new.venue) in
    let arrived = c.in_ok-arrived.ensures.dealt in
    turn_over _ _ _ (seen c.args.engine.now) (seen poll.new.engine) (g.D.Disk.bytes c.args.disk.now)
    (g.D.Disk.image c.args.disk.now) (g.D.Disk.faults c.args.disk.now) r0 r1 c.args.side
    (came_of poll.result poll.new.buf) c.args.now c.args.framer.now c.requires.ready.ready
    poll.ensures.same.0 poll.ensures.same.1 poll.ensures.world poll.ensures.grew poll.ensures.may
    poll.ensures.client_agrees poll.ensures.venue_agrees
    _ _ c.arrived.new.framer arrived.0 c.tick.result arrived.1
    (dealt_append _ _ _ _ _ _ _
    (events_of c.args.side (came_of poll.result poll.new.buf) arrived.0) (Tick c.args.side ∷ [])
    c.args.now _ c.tick.result arrived.2 c.tick.ensures.dealt)

-- nothing came, and the side rests
pub returns-then-rests-clause-turn : goal.returns-then-rests-clause-turn
returns-then-rests-clause-turn g c =
    let poll = c.poll-found in
    let r0 = records (g.C.Wire.recorded c.args.client.now) (g.V.Wire.recorded c.args.venue.now) in
    let r1 = records (g.C.Wire.recorded poll.new.client) (g.V.Wire.recorded poll.new.venue) in
    let polled = seen poll.new.engine in
    let at = around polled (g.D.Disk.bytes c.args.disk.now) (g.D.Disk.image c.args.disk.now)
    (g.D.Disk.faults c.args.disk.now) r1.client r1.venue in
    let is = c.is_nothing.ensures c.if-is_nothing.true poll.new.buf in
    turn_over _ _ _ (seen c.args.engine.now) (seen poll.new.engine) (g.D.Disk.bytes c.args.disk.now)
    (g.D.Disk.image c.args.disk.now) (g.D.Disk.faults c.args.disk.now) r0 r1 c.args.side
    (came_of poll.result poll.new.buf) c.args.now c.args.framer.now c.requires.ready.ready
    poll.ensures.same.0 poll.ensures.same.1 poll.ensures.world poll.ensures.grew poll.ensures.may
    poll.ensures.client_agrees poll.ensures.venue_agrees
    (tt {0}) at c.args.framer.now [] (Ok (tt {0}))
    (arrived_alone c.args.side c.args.framer.now c.args.framer.now _ wire.Nothing (Ok (tt {0})) is
    (λ read h. refl) (λ read h. h))
    (dealt_nothing _ c.args.taps.now.items c.args.taps.now.items at at c.args.side _ c.args.now
    (Ok (tt {0})) is (dealt_quiet _ c.args.taps.now.items at c.args.side c.args.now (tt {0})
    (record {
      ready = ready_same (seen c.args.engine.now) polled _ poll.ensures.same.0 poll.ensures.same.1
          c.requires.ready.ready;
      client = poll.ensures.client_agrees;
      venue = poll.ensures.venue_agrees;
    }) (c.rests.ensures c.if-rests.true r1)))
