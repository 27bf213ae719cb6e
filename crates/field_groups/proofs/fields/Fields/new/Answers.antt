use Rattle.field_groups.proofs.Indexing.{none_indexed}
use Rattle.field_groups.proofs.fields.Fields.new.Goals as goal

pub invariant_of-result : goal.invariant_of-result
invariant_of-result c = rw c.new.ensures.items none_indexed
