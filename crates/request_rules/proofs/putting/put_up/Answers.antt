use Rattle.request_rules.specs.CodeRules.{source_of}
use Rattle.request_rules.specs.Good.{table}
use Rattle.request_rules.proofs.PutUp.{known, lacking, put}
use Rattle.request_rules.proofs.putting.put_up.Goals as goal

pub put_rules-requires : goal.put_rules-requires
put_rules-requires c = (known (table c.args.good.now) c.requires.typed).written

pub returns-clause-ok : goal.returns-clause-ok
returns-clause-ok c =
    put (source_of c.args.good.now) c.requires.typed c.requires.none c.up_rules.result.now
    c.up_rules.ensures.rules c.up_rules.ensures.news c.up_rules.ensures.cancels
    c.up_rules.ensures.replaces c.up_rules.ensures.statuses
    c.put_rules.result c.args.out.now.items c.put_rules.new.out.items
    c.put_rules.ensures.said c.put_rules.ensures.done

pub returns-clause-lack : goal.returns-clause-lack
returns-clause-lack c =
    lacking (source_of c.args.good.now) c.requires.typed c.requires.none c.up_rules.result.now
    c.up_rules.ensures.rules c.up_rules.ensures.news c.up_rules.ensures.cancels
    c.up_rules.ensures.replaces c.up_rules.ensures.statuses
    c.put_rules.result c.put_rules.ensures.lack
