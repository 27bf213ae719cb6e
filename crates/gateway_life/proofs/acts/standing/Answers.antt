use Rattle.std.proofs.Common.{ap, ◌∙◌}
use Rattle.life_laws.specs.Happens.{standing}
use Rattle.gateway_life.proofs.Standing.{closed_down, down_standing}
use Rattle.gateway_life.proofs.acts.standing.Goals as goal

pub returns-else-up : goal.returns-else-up
returns-else-up c =
    down_standing c.args.up c.session-session.result.now c.on_closed.result c.if-up.false
    (closed_down c.session-session.result.now c.on_closed.result (c.on_closed.ensures.step 0))
    ∙ ap (standing c.args.up) c.session-session.ensures
