use Rattle.message_answers.proofs.GivenOut.{answers_given}
use Rattle.message_answers.proofs.laws.answers_are_given_out.Goals as goal

pub returns : goal.returns
returns c = answers_given
