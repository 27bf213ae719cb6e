use Rattle.std.proofs.Common.{refl, ◌∙◌, sym, subst, ◌++◌, ◌∷◌, Ok, []}
use Rattle.frame_grammar.specs.Cut.{Good, Bad}
use Rattle.frame_grammar.specs.Frame.{IsBody}
use Rattle.frame_grammar.specs.Framer.{StandsFor}
use Rattle.event_decisions.specs.Event.{Frame}
use Rattle.gateway_life.specs.Dealt.{around}
use Rattle.gateway_life.specs.State.{seen}
use Rattle.gateway_life.proofs.Turning.{took_err, answered_none, answered_all, answered_same}
use Rattle.gateway_life.proofs.Turning.{answered_more}
use Rattle.gateway_life.proofs.Dealing.{dealt_frame, dealt_err, dealt_none}
use Rattle.gateway_life.proofs.Cutting.{framed}
use Rattle.gateway_life.proofs.turn.take_frames.Goals as goal

pub frames-init : goal.frames-init
frames-init g c = record {
  kind = refl;
  stands = c.requires.stands;
  dealt = (
    [],
    answered_none c.args.framer.now,
    dealt_none _ c.args.taps.now.items (around (seen c.args.engine.now) _ _ _ _ _) c.args.now tt
        c.requires.ready,
  );
  client_polls = refl;
  venue_polls = refl;
  client_plays = λ script plays. plays;
  venue_plays = λ script plays. plays;
}

pub returns-in-More-clause-stands : goal.returns-in-More-clause-stands
returns-in-More-clause-stands g c =
    let s = c.frames.invariant.stands in
    (s.0, s.1, (c.in-More.ensures.answers s.0 s.1 s.2).0)

pub returns-in-More-clause-dealt : goal.returns-in-More-clause-dealt
returns-in-More-clause-dealt g c =
    let done = c.frames.invariant.dealt in (
      done.0,
      record {
        all = answered_all c.args.framer.now c.frames.framer c.next.new.self done.0 done.1
            c.in-More.ensures.answers;
        first = tt;
      },
      done.2,
    )

pub frames-preserved-in-Garbled : goal.frames-preserved-in-Garbled
frames-preserved-in-Garbled g c =
    let inv = c.frames.invariant in
    let s = inv.stands in
    let here = c.in-Garbled.ensures.answers s.0 s.1 s.2 in
    record {
      kind = c.next.ensures.kind ∙ inv.kind;
      stands = (s.0, s.1 ++ Bad c.in-Garbled.cause here.0 ∷ [], here.1);
      dealt = (
        inv.dealt.0,
        answered_same c.args.framer.now c.frames.framer c.next.new.self inv.dealt.0 inv.dealt.1
            (λ stream answered stands.
            let found = c.in-Garbled.ensures.answers stream answered stands in
            (c.in-Garbled.cause, found.0, found.1)),
        inv.dealt.2,
      );
      client_polls = inv.client_polls;
      venue_polls = inv.venue_polls;
      client_plays = inv.client_plays;
      venue_plays = inv.venue_plays;
    }

pub frame_event-requires-clause-ready : goal.frame_event-requires-clause-ready
frame_event-requires-clause-ready g c = c.frames.invariant.dealt.2.kept.ready

pub frame_event-requires-clause-body : goal.frame_event-requires-clause-body
frame_event-requires-clause-body g c =
    let s = c.frames.invariant.stands in
    let here = c.in-Frame.ensures.answers s.0 s.1 s.2 in
    subst IsBody (sym (c.part.ensures ∙ here.5)) (framed _ _ _ _ _ _ here.2.come)

pub frames-preserved : goal.frames-preserved
frames-preserved g c =
    let inv = c.frames.invariant in
    let s = inv.stands in
    let here = c.in-Frame.ensures.answers s.0 s.1 s.2 in
    let event = c.in_ok-frame_event-in-Frame.ensures in
    let done = inv.dealt in
    let body = c.part.result.now in
    let side = c.args.side in
    record {
      kind = c.next.ensures.kind ∙ inv.kind;
      stands = (s.0, s.1 ++ Good here.0 here.1 ∷ [], here.2);
      dealt = (
        done.0 ++ body ∷ [],
        answered_more c.args.framer.now c.frames.framer c.next.new.self done.0 done.1 body
            (λ stream answered stands.
            let found = c.in-Frame.ensures.answers stream answered stands in (
              found.1,
              subst (λ b. StandsFor c.next.new.self stream (answered ++ Good b found.1 ∷ []))
                  (sym (c.part.ensures ∙ found.5)) found.2,
            )),
        dealt_frame _ side done.0 body _ _ _ _ _ _ c.args.now tt (Ok tt) done.2 event.dealt,
      );
      client_polls = event.client_polls ∙ inv.client_polls;
      venue_polls = event.venue_polls ∙ inv.venue_polls;
      client_plays = λ script plays. event.client_plays script (inv.client_plays script plays);
      venue_plays = λ script plays. event.venue_plays script (inv.venue_plays script plays);
    }

pub returns-in_err-frame_event-in-Frame-clause-dealt :
    goal.returns-in_err-frame_event-in-Frame-clause-dealt
returns-in_err-frame_event-in-Frame-clause-dealt g c =
    let inv = c.frames.invariant in
    let done = inv.dealt in
    let body = c.part.result.now in
    let side = c.args.side in
    let error = c.in_err-frame_event-in-Frame.field-0.0 in (
      done.0 ++ body ∷ [],
      took_err c.from_residual.result error c.args.framer.now c.next.new.self (done.0 ++ body ∷ [])
          c.from_residual.ensures.1 (c.next.ensures.kind ∙ inv.kind)
          (answered_more c.args.framer.now c.frames.framer c.next.new.self done.0 done.1 body
          (λ stream answered stands.
          let found = c.in-Frame.ensures.answers stream answered stands in (
            found.1,
            subst (λ b. StandsFor c.next.new.self stream (answered ++ Good b found.1 ∷ []))
                (sym (c.part.ensures ∙ found.5)) found.2,
          ))),
      dealt_frame _ side done.0 body _ _ _ _ _ _ c.args.now tt c.from_residual.result done.2
          (dealt_err _ c.from_residual.result error _ _ _ _ (Frame side body ∷ []) [] c.args.now
          c.from_residual.ensures.1 c.in_err-frame_event-in-Frame.ensures.dealt),
    )
