use Rattle.std.proofs.Common.{refl}
use Rattle.message_tables.specs.Tables.{first_of}
use Rattle.message_tables.proofs.stages.Found.new.Goals as goal

pub returns : goal.returns
unfolding first_of
returns c = record { version = refl; wrong = refl; outside = refl }
