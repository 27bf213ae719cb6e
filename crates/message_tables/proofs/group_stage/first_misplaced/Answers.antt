use Rattle.message_tables.proofs.group_stage.first_misplaced.Goals as goal

pub returns : goal.returns
returns g c = rw c.as_slice.ensures at c.misplaced_from.ensures
