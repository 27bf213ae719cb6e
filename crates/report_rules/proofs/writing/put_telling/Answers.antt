use Rattle.std.proofs.Common.{ap, option_map}
use Rattle.report_rules.proofs.Telling.{joined}
use Rattle.report_rules.proofs.writing.put_telling.Goals as goal

pub returns-in_default-Some-clause-done : goal.returns-in_default-Some-clause-done
returns-in_default-Some-clause-done c =
    joined c.put_joined.result c.args.tag (option_map (λ t. t.now) c.args.text)
    c.in_default-Some.text.now c.args.told.now c.front.result.now c.args.out.now.items
    c.put_joined.new.out.items (ap (option_map (λ t. t.now)) c.in_default-Some.is-1)
    c.in_default-Some.len_at_least c.front.ensures c.put_joined.ensures.done
