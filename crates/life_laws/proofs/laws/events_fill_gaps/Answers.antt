-- What is sent again goes first.
use Rattle.life_laws.proofs.Answered.{events_fill}
use Rattle.life_laws.proofs.laws.events_fill_gaps.Goals as goal

pub returns : goal.returns
returns g c = events_fill g.A.Answering.answers
