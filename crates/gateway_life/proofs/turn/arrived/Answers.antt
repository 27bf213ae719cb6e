use Rattle.std.proofs.Common.{◌≤◌, refl, ◌∙◌, ap, ◌++◌, length, take, arith, Ok, []}
use Rattle.std.proofs.lemmas.List.{length-take}
use Rattle.wires.specs.Wire as wire
use Rattle.wires.specs.Wire.{came_of, came_by}
use Rattle.frame_grammar.specs.Held.{Held, room}
use Rattle.event_decisions.specs.Event.{Opened, Closed}
use Rattle.gateway_life.specs.Dealt.{around}
use Rattle.gateway_life.specs.State.{seen}
use Rattle.gateway_life.proofs.Turning.{arrived_bytes, opened_whole, arrived_as, arrived_alone}
use Rattle.gateway_life.proofs.Dealing.{dealt_none, dealt_as}
use Rattle.gateway_life.proofs.Polling.{feed_all}
use Rattle.gateway_life.proofs.turn.arrived.Goals as goal

pub returns-in-Err-clause-dealt : goal.returns-in-Err-clause-dealt
returns-in-Err-clause-dealt g c =
    let is = ap (λ f. came_of f c.args.buf.now) c.in-Err.is in (
      [],
      arrived_alone c.args.side c.args.framer.now c.args.framer.now _ wire.Broken c.event.result is
          (λ read h. refl) (λ read h. h),
      dealt_as _ c.args.side _ wire.Broken [] _ _ _ _ c.args.now c.event.result is
          (c.event.ensures.dealt (Closed c.args.side) refl refl),
    )

pub take_frames-requires-clause-stands : goal.take_frames-requires-clause-stands
take_frames-requires-clause-stands g c =
    let d = c.requires.drained.stands in (d.0 ++ _, d.1, c.feed.ensures.stands d.0 d.1 d.2)

pub returns-in-Nothing-clause-dealt : goal.returns-in-Nothing-clause-dealt
returns-in-Nothing-clause-dealt g c =
    let is = ap (λ f. came_of f c.args.buf.now) c.in-Ok.is
    ∙ ap (λ a. came_by a c.args.buf.now) c.in-Nothing.is in (
      [],
      arrived_alone c.args.side c.args.framer.now c.args.framer.now _ wire.Nothing (Ok tt) is
          (λ read h. refl) (λ read h. h),
      dealt_as _ c.args.side _ wire.Nothing [] _ _ _ _ c.args.now (Ok tt) is
          (dealt_none _ c.args.taps.now.items (around (seen c.args.engine.now) _ _ _ _ _)
          c.args.now tt c.requires.ready),
    )

pub returns-in-Opened-clause-dealt : goal.returns-in-Opened-clause-dealt
returns-in-Opened-clause-dealt g c =
    let is = ap (λ f. came_of f c.args.buf.now) c.in-Ok.is
    ∙ ap (λ a. came_by a c.args.buf.now) c.in-Opened.is in (
      [],
      arrived_alone c.args.side c.args.framer.now c.restart.new.self _ wire.Opened
          c.event-in-Opened.result is (λ read h. refl)
          (λ read h. opened_whole c.restart.new.self c.restart.ensures.stands),
      dealt_as _ c.args.side _ wire.Opened [] _ _ _ _ c.args.now c.event-in-Opened.result is
          (c.event-in-Opened.ensures.dealt (Opened c.args.side) refl refl),
    )

pub returns-in-Closed-clause-dealt : goal.returns-in-Closed-clause-dealt
returns-in-Closed-clause-dealt g c =
    let is = ap (λ f. came_of f c.args.buf.now) c.in-Ok.is
    ∙ ap (λ a. came_by a c.args.buf.now) c.in-Closed.is in (
      [],
      arrived_alone c.args.side c.args.framer.now c.args.framer.now _ wire.Closed
          c.event-in-Closed.result is (λ read h. refl) (λ read h. h),
      dealt_as _ c.args.side _ wire.Closed [] _ _ _ _ c.args.now c.event-in-Closed.result is
          (c.event-in-Closed.ensures.dealt (Closed c.args.side) refl refl),
    )

pub returns-in-Bytes-clause-dealt : goal.returns-in-Bytes-clause-dealt
returns-in-Bytes-clause-dealt g c =
    let is = ap (λ f. came_of f c.args.buf.now) c.in-Ok.is
    ∙ ap (λ a. came_by a c.args.buf.now) c.in-Bytes.is in
    let bytes = take c.in-Bytes.count c.args.buf.now in
    let fits : length bytes ≤ room c.args.framer.now = omega (
      arith,
      c.requires.short,
      c.requires.drained.room,
      length-take c.in-Bytes.count c.args.buf.now,
    ) in
    let taken = c.take_frames.ensures.dealt in (
      taken.0,
      arrived_as c.args.side c.args.framer.now c.take_frames.new.framer _ (wire.Bytes bytes)
          taken.0 c.take_frames.result is
          (arrived_bytes c.args.side c.args.framer.now c.feed.new.self c.take_frames.new.framer
          bytes taken.0 c.requires.drained.kind
          (ap (λ (h : Held). h.kind) c.feed.ensures.same ∙ c.requires.drained.kind)
          (feed_all c.args.framer.now c.feed.new.self bytes c.feed.result c.feed.ensures.taken fits
          c.feed.ensures.stands) c.take_frames.result c.take_frames.ensures.kind taken.1),
      dealt_as _ c.args.side _ (wire.Bytes bytes) taken.0 _ _ _ _ c.args.now c.take_frames.result is
          taken.2,
    )
