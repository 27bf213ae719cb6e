use Rattle.message_tables.proofs.Clean.{is_said}
use Rattle.message_tables.proofs.laws.needed_rows_are_said.Goals as goal

pub returns : goal.returns
returns g c = is_said
