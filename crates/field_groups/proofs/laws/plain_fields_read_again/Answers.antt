use Rattle.field_groups.proofs.Plain.{plain_again}
use Rattle.field_groups.proofs.laws.plain_fields_read_again.Goals as goal

pub returns : goal.returns
returns c = plain_again
