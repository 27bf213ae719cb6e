use Rattle.message_tables.proofs.Clean.{reads_as}
use Rattle.message_tables.proofs.laws.fields_are_read.Goals as goal

pub returns : goal.returns
returns g c = reads_as
