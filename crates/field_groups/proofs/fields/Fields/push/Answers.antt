use Rattle.field_groups.proofs.Indexing.{own_is}
use Rattle.field_groups.proofs.fields.Fields.push.Goals as goal

pub push_in-requires-clause-slot : goal.push_in-requires-clause-slot
push_in-requires-clause-slot c = own_is c.args.tag c.if-tag-lt-OWN.true
