-- What is told of a refusal that was read: it is read again from its message, within its bounds.
use Rattle.message_answers.proofs.Bounded.{business_bounded42, business_bounded50, session_bounded}
use Rattle.message_answers.proofs.Refusals.{business_again, session_again}

pub ruleset of = (
  business_again,
  session_again,
  business_bounded42,
  business_bounded50,
  session_bounded,
)
