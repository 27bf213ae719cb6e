use Rattle.std.proofs.Common.{refl, ◌∙◌, sym}
use Rattle.event_decisions.specs.Event.{Frame}
use Rattle.gateway_life.specs.Dealt.{around}
use Rattle.gateway_life.specs.Ready.{world_of}
use Rattle.gateway_life.specs.State.{seen}
use Rattle.gateway_life.proofs.Dealing.{kept_none}
use Rattle.gateway_life.proofs.Turning.{passed_over}
use Rattle.gateway_life.proofs.turn.frame_event.Goals as goal

pub returns-then-not-is_up-clause-dealt : goal.returns-then-not-is_up-clause-dealt
returns-then-not-is_up-clause-dealt g c = record {
  kept = kept_none _ c.args.taps.now.items (around (seen c.args.engine.now) _ _ _ _ _) tt
      c.requires.ready;
  past = refl;
  done = λ t. passed_over c.args.engine.now.core.config (world_of (seen c.args.engine.now))
      c.args.side c.args.body.now c.args.now _ (sym c.is_up.ensures ∙ c.if-not-is_up.true);
  ends = tt;
}

pub returns-clause-dealt : goal.returns-clause-dealt
returns-clause-dealt g c = c.event.ensures.dealt (Frame c.args.side c.args.body.now) refl
    (sym c.is_up.ensures ∙ c.if-not-is_up.false)
