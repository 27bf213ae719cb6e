use Rattle.row_words.proofs.words.+behind.Given as goal

abbrev pub decreases-behind : goal.decreases-behind
decreases-behind l = l.words
