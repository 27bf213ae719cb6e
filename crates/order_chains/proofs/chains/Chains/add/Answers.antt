use Rattle.std.proofs.Common.{List, ap, ◌∙◌}
use Rattle.order_chains.specs.declared.item.ChainItem.{ChainItem}
use Rattle.order_chains.specs.Chains.{with_item}
use Rattle.order_chains.proofs.ChainLemmas.{added, distinct_ids}
use Rattle.order_chains.proofs.chains.Chains.add.Goals as goal

pub returns-clause-ok : goal.returns-clause-ok
returns-clause-ok c =
    let items = c.self.inside.items.keys in
    c.in_ok-insert.ensures.keys ∙ added items c.in_ok-held.held
    ∙ ap (with_item items) c.in_ok-held.ensures
    ∙ ap (λ (l : List ChainItem). with_item l c.args.item.now) c.self.view_is

pub invariant_of-self-2 : goal.invariant_of-self-2
invariant_of-self-2 c = distinct_ids c.insert.new.self.keys c.insert.ensures.unique

pub returns-clause-distinct : goal.returns-clause-distinct
returns-clause-distinct c = distinct_ids c.insert.new.self.keys c.insert.ensures.unique
