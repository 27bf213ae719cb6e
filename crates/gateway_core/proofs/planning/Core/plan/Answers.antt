use Rattle.kept_entries.specs.Days.{last_day}
use Rattle.gateway_core.proofs.Grown.{plan_new, plan_grows}
use Rattle.gateway_core.proofs.planning.Core.plan.Goals as goal

pub returns-clause-new : goal.returns-clause-new
returns-clause-new c =
    plan_new c.args.self.now c.planned.result c.planned.ensures.item

pub returns-clause-grows : goal.returns-clause-grows
returns-clause-grows c entries stand =
    plan_grows c.args.self.now (last_day c.args.journal.now.entries) entries c.planned.result
    c.planned.ensures.item stand
