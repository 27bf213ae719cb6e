use Rattle.field_groups.proofs.Whole.{every_body}
use Rattle.field_groups.proofs.laws.every_body_splits.Goals as goal

pub returns : goal.returns
returns c = every_body
