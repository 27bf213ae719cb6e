-- Each day that ended is left as by a life, and the next one begins with all that holds.
use Rattle.life_laws.proofs.ByDay.{days-leave}
use Rattle.life_laws.proofs.laws.days_leave.Goals as goal

pub returns : goal.returns
returns g c = λ names window minute began rested reads before moments last ended days left client
    venue sides first h rc rv all lives.
    days-leave g.A.Answering.answers names window minute rested sides first last left days began
    reads before moments ended client venue h rc rv all lives
