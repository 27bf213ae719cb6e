use Rattle.reports_fix50.specs.Said.{cancel_reject_says}
use Rattle.dictionary_rows.proofs.Complete.{reject_is}
use Rattle.dictionary_rows.proofs.fix44.cancel_reject.Goals as goal

pub cancel_reject_down-down-requires-clause-sound : goal.cancel_reject_down-down-requires-clause-sound
cancel_reject_down-down-requires-clause-sound c =
    reject_is c.in_ok-split.split.fields c.in_ok-split.split.fault
    (cancel_reject_says c.in-Ok.venue) c.in_ok-split.ensures.good c.in-Ok.ensures.says
