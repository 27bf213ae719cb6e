use Rattle.event_decisions.specs.Body.{reading_of}
use Rattle.event_decisions.proofs.Bodies.{bodies_are_read}
use Rattle.message_answers.proofs.joining.BodyLookup.value.Goals as goal

pub returns : goal.returns
returns c =
    let body = c.args.self.now.bytes.now in
    c.value_of.ensures (reading_of body).fields (reading_of body).fault (bodies_are_read body)
