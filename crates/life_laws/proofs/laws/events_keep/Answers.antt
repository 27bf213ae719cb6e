-- On each side the event adds forms of the journal with its entry.
use Rattle.life_laws.proofs.World.{keeps}
use Rattle.life_laws.proofs.laws.events_keep.Goals as goal

pub returns : goal.returns
returns g c = λ names window before after event now added cl vl cp vp h cn vn does.
    keeps g.A.Answering.answers names window before event now added cl vl cp vp h cn vn after does
