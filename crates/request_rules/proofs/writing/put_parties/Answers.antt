use Rattle.std.proofs.Common.{◌+◌}
use Rattle.std.specs.Option.{option_map}
use Rattle.request_rules.proofs.PartiesPut.{parties_put}
use Rattle.request_rules.proofs.writing.put_parties.Goals as goal

pub returns-clause-done : goal.returns-clause-done
returns-clause-done c =
    parties_put c.put_party-3.result (option_map (λ t. t.now) c.args.client)
    (option_map (λ t. t.now) c.args.broker) (option_map (λ t. t.now) c.args.firm)
    (c.count_of.result + c.count_of-2.result + c.count_of-3.result) c.args.out.now.items
    c.put_count.new.out.items c.put_party.new.out.items c.put_party-2.new.out.items
    c.put_party-3.new.out.items
    (λ i. c.count_of.ensures i + c.count_of-2.ensures i + c.count_of-3.ensures i)
    c.in_ok-put_count.ensures.done c.in_ok-put_party.ensures.done c.in_ok-put_party-2.ensures.done
    c.put_party-3.ensures.done
