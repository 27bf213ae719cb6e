use Rattle.std.proofs.Common.{refl}
use Rattle.message_tables.specs.Tables.{first_of}
use Rattle.message_tables.proofs.table.Item.placed_len.Goals as goal

pub returns-in-One-clause-placed : goal.returns-in-One-clause-placed
unfolding first_of
returns-in-One-clause-placed g c = λ place lt. rw c.in-One.is refl

pub returns-in-Party-clause-placed : goal.returns-in-Party-clause-placed
unfolding first_of
returns-in-Party-clause-placed g c = λ place lt. rw c.in-Party.is refl

pub returns-in-Lines-clause-placed : goal.returns-in-Lines-clause-placed
unfolding first_of
returns-in-Lines-clause-placed g c = λ place lt.
    rw (c.in-Lines.is, c.placed_len.ensures.placed place lt) refl
