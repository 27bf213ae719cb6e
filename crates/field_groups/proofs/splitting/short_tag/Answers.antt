use Rattle.field_groups.proofs.Reading.{two_tests}
use Rattle.field_groups.proofs.splitting.short_tag.Goals as goal

pub returns-clause-good : goal.returns-clause-good
returns-clause-good c =
    two_tests c.args.bytes.now c.in_ok-tag.ensures.digits c.in_ok-tag.ensures.within
    c.in_ok-tag.ensures.lead c.in_ok-tag.ensures.equals
