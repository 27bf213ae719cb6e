-- Each entry of a lawful journal goes on from the numbers before it.
use Rattle.life_laws.proofs.Begun.{begins}
use Rattle.life_laws.proofs.laws.lives_begin.Goals as goal

pub returns : goal.returns
returns g c = begins g.A.Answering.answers
