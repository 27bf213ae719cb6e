use Rattle.field_groups.proofs.Determined.{determined}
use Rattle.field_groups.proofs.laws.fields_are_determined.Goals as goal

pub returns : goal.returns
returns c = determined
