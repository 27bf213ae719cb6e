use Rattle.std.proofs.Common.{refl}
use Rattle.message_tables.specs.Tables.{first_of}
use Rattle.order_meaning.specs.Request.{New}
use Rattle.translate_fix44.proofs.rules.request_rules.Goals as goal

pub returns-clause-all : goal.returns-clause-all
returns-clause-all c known New = record { are = refl; read = refl }
returns-clause-all c known kind = record { are = refl; read = refl }

pub returns-clause-lacking : goal.returns-clause-lacking
unfolding first_of
returns-clause-lacking c s = refl
