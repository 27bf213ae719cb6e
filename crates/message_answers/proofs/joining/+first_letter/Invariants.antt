use Rattle.std.proofs.Common.{length}
use Rattle.message_answers.proofs.joining.+first_letter.Given as goal

abbrev pub decreases-first_letter : goal.decreases-first_letter
decreases-first_letter l = length l.outs.now
