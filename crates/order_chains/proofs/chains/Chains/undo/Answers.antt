use Rattle.order_chains.proofs.ChainLemmas.{distinct_ids}
use Rattle.order_chains.proofs.chains.Chains.undo.Goals as goal

pub invariant_of-self : goal.invariant_of-self
invariant_of-self c = distinct_ids c.pop.new.self.keys c.pop.ensures.unique

pub returns-clause-distinct : goal.returns-clause-distinct
returns-clause-distinct c = distinct_ids c.pop.new.self.keys c.pop.ensures.unique
