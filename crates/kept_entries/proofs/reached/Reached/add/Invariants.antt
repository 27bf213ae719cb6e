use Rattle.kept_entries.proofs.reached.Reached.add.Given as goal

abbrev pub ghost-joined : goal.ghost-joined
ghost-joined a = a.entry.now
