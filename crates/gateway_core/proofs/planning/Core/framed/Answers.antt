use Rattle.std.proofs.Common.{◌∙◌, ap, sym}
use Rattle.session_core.specs.declared.session.Session.{Session}
use Rattle.session_core.specs.Table.{Message, step}
use Rattle.event_decisions.specs.Decide.{head_in}
use Rattle.gateway_core.specs.State.{CoreState}
use Rattle.gateway_core.proofs.Reacted.{head_is, frame_sayable}
use Rattle.gateway_core.proofs.planning.Core.framed.Goals as goal

pub reacted-requires-clause-head : goal.reacted-requires-clause-head
reacted-requires-clause-head c =
    let config = c.self.inside.config in
    head_is c.args.side config.names config.window c.msg_type-msg_type.result.now
    c.args.split.now.fields c.args.split.now.fault c.args.body.now c.args.now
    c.read_head-head.result c.requires.split c.msg_type-msg_type.ensures
    c.read_head-head.ensures
    ∙ ap (λ (core : CoreState). head_in core.config.names core.config.window c.args.side
    c.args.body.now c.args.now) c.self.view_is

pub reacted-requires-clause-sayable : goal.reacted-requires-clause-sayable
reacted-requires-clause-sayable c =
    let config = c.self.inside.config in
    frame_sayable c.args.self.now c.args.side c.args.body.now c.args.now c.read_head-head.result
    c.in-Ok.step c.steps_are_sayable.ensures
    (head_is c.args.side config.names config.window c.msg_type-msg_type.result.now
    c.args.split.now.fields c.args.split.now.fault c.args.body.now c.args.now
    c.read_head-head.result c.requires.split c.msg_type-msg_type.ensures
    c.read_head-head.ensures
    ∙ ap (λ (core : CoreState). head_in core.config.names core.config.window c.args.side
    c.args.body.now c.args.now) c.self.view_is)
    (ap (λ (s : Session). step s (Message c.read_head-head.result) c.args.now)
    (sym c.session.ensures) ∙ sym c.on_message.ensures.step ∙ c.in-Ok.is)
