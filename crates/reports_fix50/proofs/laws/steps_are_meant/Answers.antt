use Rattle.reports_fix50.proofs.Steps.{steps_meant}
use Rattle.reports_fix50.proofs.laws.steps_are_meant.Goals as goal

pub returns : goal.returns
returns c = steps_meant
