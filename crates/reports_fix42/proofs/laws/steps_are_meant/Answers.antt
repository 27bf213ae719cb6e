use Rattle.reports_fix42.proofs.Steps.{steps_meant}
use Rattle.reports_fix42.proofs.laws.steps_are_meant.Goals as goal

pub returns : goal.returns
returns c = steps_meant
