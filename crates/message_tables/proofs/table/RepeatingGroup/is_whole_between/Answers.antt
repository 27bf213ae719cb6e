use Rattle.message_tables.proofs.table.RepeatingGroup.is_whole_between.Goals as goal

pub is_whole_in-requires-clause-apart : goal.is_whole_in-requires-clause-apart
is_whole_in-requires-clause-apart g c = λ κs lives. rw c.as_slice.ensures c.requires.apart

pub returns : goal.returns
returns g c = rw c.as_slice.ensures at c.is_whole_in.ensures
