use Rattle.gateway_core.proofs.Planned.{steps_sayable}
use Rattle.gateway_core.proofs.planning.steps_are_sayable.Goals as goal

pub returns : goal.returns
returns c =
    steps_sayable c.two_messages_at_most.ensures c.each_message_takes_a_number.ensures
