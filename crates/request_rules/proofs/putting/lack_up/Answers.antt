use Rattle.std.proofs.Common.{◌∙◌}
use Rattle.request_rules.specs.CodeRules.{source_of}
use Rattle.request_rules.proofs.PutUp.{lack_told}
use Rattle.request_rules.proofs.putting.lack_up.Goals as goal

pub returns : goal.returns
returns c = c.first_lack.ensures
    ∙ lack_told (source_of c.args.good.now) c.requires.typed c.requires.none
