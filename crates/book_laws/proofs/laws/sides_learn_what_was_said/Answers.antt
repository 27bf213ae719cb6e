use Rattle.book_laws.proofs.Followed.{sides_learn}
use Rattle.book_laws.proofs.laws.sides_learn_what_was_said.Goals as goal

pub returns : goal.returns
returns c = sides_learn c.messages_are_read.ensures.texts c.answers_are_given_out.ensures
