-- A front of the event's forms shows the journal as they do.
use Rattle.life_laws.proofs.World.{leaves, stops-leave}
use Rattle.life_laws.proofs.laws.stops_leave.Goals as goal

pub returns-clause-before : goal.returns-clause-before
returns-clause-before g c = leaves g.A.Answering.answers

pub returns-clause-within : goal.returns-clause-within
returns-clause-within g c = λ names window before event now added entries cl vl cp vp h cn vn stops.
    stops-leave g.A.Answering.answers names window before event now added cl vl cp vp h cn vn
    entries stops
