use Rattle.message_tables.proofs.OnePass.{lacks_none, lacks_some}
use Rattle.message_tables.proofs.lookup.lacks.Goals as goal

pub returns-in-None : goal.returns-in-None
returns-in-None c = lacks_none c.args.tag c.args.fields.now c.in-None.ensures.place

pub returns-in-Some : goal.returns-in-Some
returns-in-Some c = lacks_some c.args.tag c.args.fields.now _ c.in-Some.ensures.place
