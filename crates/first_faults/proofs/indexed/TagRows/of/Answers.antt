use Rattle.first_faults.proofs.indexed.TagRows.of.Goals as goal

pub keep_all-requires-clause-rows : goal.keep_all-requires-clause-rows
keep_all-requires-clause-rows c = c.new-rows.ensures c.args.table.now
