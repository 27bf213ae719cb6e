use Rattle.frame_grammar.proofs.Causes.{first_broken}
use Rattle.frame_grammar.proofs.laws.the_first_broken_rule_is_named.Goals as goal

pub returns : goal.returns
returns c = first_broken
