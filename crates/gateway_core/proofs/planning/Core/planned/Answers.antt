use Rattle.std.proofs.Common.{ap}
use Rattle.event_decisions.specs.Event.{Closed}
use Rattle.gateway_core.specs.State.{event_of}
use Rattle.gateway_core.proofs.Planned.{closed_plans, side_plans}
use Rattle.gateway_core.proofs.planning.Core.planned.Goals as goal

pub returns-in-Closed-clause-plans : goal.returns-in-Closed-clause-plans
returns-in-Closed-clause-plans c entries stand =
    side_plans c.args.self.now entries (event_of c.args.event.now) (Closed c.in-Closed.side)
    c.args.now c.quiet-in-Closed.result (ap event_of c.in-Closed.is)
    (closed_plans c.args.self.now entries c.in-Closed.side c.args.now
    c.session-in-Closed.result.now c.on_closed-next.result c.new.result c.quiet-in-Closed.result
    c.session-in-Closed.ensures (c.on_closed-next.ensures.step c.args.now) c.new.ensures
    c.quiet-in-Closed.ensures.plan) c.quiet-in-Closed.ensures.fresh
