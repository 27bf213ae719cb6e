use Rattle.dict_fix44.proofs.Steps.{steps_meant}
use Rattle.dict_fix44.proofs.laws.steps_are_meant.Goals as goal

pub returns : goal.returns
returns c = steps_meant
