use Rattle.std.proofs.Common.{◌∙◌, ap}
use Rattle.event_decisions.specs.Decide.{is_active}
use Rattle.kept_entries.specs.Days.{last_day}
use Rattle.gateway_core.specs.State.{CoreState}
use Rattle.gateway_core.proofs.Asked.{answered_is}
use Rattle.gateway_core.proofs.planning.Core.answered.Goals as goal

pub returns-clause-answered : goal.returns-clause-answered
returns-clause-answered c =
    answered_is c.args.self.now (last_day c.args.journal.now.entries) c.args.asked.now
    c.args.is_asked c.self.inside.chains c.is_active.result c.answer_to.result
    c.if-not-is_asked.false
    (ap (λ (core : CoreState). core.chains) c.self.view_is)
    (c.is_active.ensures ∙ ap (λ (core : CoreState). is_active core.venue.link) c.self.view_is)
    c.answer_to.ensures.answer c.answer_to.ensures.item
