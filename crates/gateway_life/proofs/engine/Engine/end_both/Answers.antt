use Rattle.std.proofs.Common.{refl, ◌∷◌, []}
use Rattle.order_meaning.specs.declared.Side.TheVariants.{Client, Venue}
use Rattle.event_decisions.specs.Event.{End}
use Rattle.gateway_life.proofs.Dealing.{dealt_err, dealt_append}
use Rattle.gateway_life.proofs.engine.Engine.end_both.Goals as goal

pub event-requires-2-clause-ready : goal.event-requires-2-clause-ready
event-requires-2-clause-ready g c =
    (c.in_ok-event.ensures.dealt (End Client) refl refl).kept.ready

pub returns-in_err-event-clause-dealt : goal.returns-in_err-event-clause-dealt
returns-in_err-event-clause-dealt g c =
    dealt_err _ c.from_residual.result c.in_err-event.field-0.0 _ _ _ _ (End Client ∷ [])
    (End Venue ∷ []) c.args.now c.from_residual.ensures.1
    (c.in_err-event.ensures.dealt (End Client) refl refl)

pub returns-clause-dealt : goal.returns-clause-dealt
returns-clause-dealt g c =
    dealt_append _ _ _ _ _ _ _ (End Client ∷ []) (End Venue ∷ []) c.args.now _ c.event-2.result
    (c.in_ok-event.ensures.dealt (End Client) refl refl)
    (c.event-2.ensures.dealt (End Venue) refl refl)
