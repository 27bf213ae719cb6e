use Rattle.std.proofs.Common.{rules, sym, ◌∙◌}
use Rattle.event_decisions.specs.Decide.{Sessions}
use Rattle.gateway_core.specs.State.{sessions_in}
use Rattle.gateway_core.proofs.Still.{none_below, still_comes}
use Rattle.gateway_core.proofs.planning.Core.still.Goals as goal

pub returns-in-empty-clause-plan : goal.returns-in-empty-clause-plan
returns-in-empty-clause-plan c = λ now.
    let after : Sessions = record {
      client = c.sessions-3.inside.client;
      venue = c.sessions-3.inside.venue;
    } in
    still_comes (sessions_in c.args.self.now) c.args.side c.args.step.now now after
    (sym c.as_slice.ensures.items ∙ none_below _ c.in-empty.len_below)
    (search rules) (search rules)
