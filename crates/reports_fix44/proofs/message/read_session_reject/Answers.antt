use Rattle.std.proofs.Common.{Ok, false, refl, sym, ap, ◌∙◌}
use Rattle.first_faults.proofs.Given.{reads}
use Rattle.rows_fix42.specs.Header.{header}
use Rattle.refusal_parts.specs.Once.{once_by}
use Rattle.refusal_parts.proofs.Means.{session_reject_means}
use Rattle.reports_fix44.proofs.message.read_session_reject.Goals as goal

pub returns-clause-says : goal.returns-clause-says
returns-clause-says c =
    ap once_by (reads c.session_reject.ensures c.in_ok-fields.ensures _ refl)
    ∙ ap Ok
    (sym (session_reject_means header false _ c.in_ok-session_reject.field-0
    c.in_ok-session_reject.ensures.says))
