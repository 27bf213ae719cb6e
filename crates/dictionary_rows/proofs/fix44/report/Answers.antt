use Rattle.reports_fix50.specs.Said.{report_says}
use Rattle.dictionary_rows.proofs.Complete.{report_is}
use Rattle.dictionary_rows.proofs.fix44.report.Goals as goal

pub report_down-down-requires-clause-sound : goal.report_down-down-requires-clause-sound
report_down-down-requires-clause-sound c =
    report_is c.in_ok-split.split.fields c.in_ok-split.split.fault (report_says c.in-Ok.venue)
    c.in_ok-split.ensures.good c.in-Ok.ensures.says
