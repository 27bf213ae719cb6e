use Rattle.std.proofs.Common.{refl}
use Rattle.event_decisions.specs.Event.{Tick}
use Rattle.gateway_life.specs.State.{seen}
use Rattle.gateway_life.specs.Stepped.{records}
use Rattle.gateway_life.specs.Dealt.{around}
use Rattle.gateway_life.proofs.Dealing.{dealt_quiet}
use Rattle.gateway_life.proofs.engine.Engine.tick.Goals as goal

pub returns-then-rests-clause-dealt : goal.returns-then-rests-clause-dealt
returns-then-rests-clause-dealt g c =
    dealt_quiet _ c.args.taps.now.items (around (seen c.args.self.now) _ _ _ _ _) c.args.side
    c.args.now (tt {0}) c.requires.ready (c.rests.ensures c.if-rests.true
    (records (g.C.Wire.recorded c.args.client.now) (g.V.Wire.recorded c.args.venue.now)))

pub returns-clause-dealt : goal.returns-clause-dealt
returns-clause-dealt g c = c.event.ensures.dealt (Tick c.args.side) refl refl
