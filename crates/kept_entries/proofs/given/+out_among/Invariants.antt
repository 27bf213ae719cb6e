use Rattle.kept_entries.proofs.given.+out_among.Given as goal

abbrev pub decreases-out_among : goal.decreases-out_among
decreases-out_among l = l.count
