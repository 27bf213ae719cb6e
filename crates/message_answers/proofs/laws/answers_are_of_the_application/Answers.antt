use Rattle.message_answers.proofs.Application.{of_application}
use Rattle.message_answers.proofs.laws.answers_are_of_the_application.Goals as goal

pub returns : goal.returns
returns c = of_application
