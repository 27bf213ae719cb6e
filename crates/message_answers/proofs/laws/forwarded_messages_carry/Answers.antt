use Rattle.message_answers.proofs.Carried.{carried}
use Rattle.message_answers.proofs.laws.forwarded_messages_carry.Goals as goal

pub returns : goal.returns
returns c = carried
