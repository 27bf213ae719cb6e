use Rattle.wires.proofs.Kept.{stays_placed}
use Rattle.wires.proofs.laws.records_stay_in_place.Goals as goal

pub returns : goal.returns
returns c = stays_placed
