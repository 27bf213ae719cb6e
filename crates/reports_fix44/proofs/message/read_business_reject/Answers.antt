use Rattle.std.proofs.Common.{Ok, false, refl, sym, ap, ◌∙◌}
use Rattle.first_faults.proofs.Given.{reads}
use Rattle.rows_fix42.specs.Header.{header}
use Rattle.refusal_parts.specs.Once.{once_by}
use Rattle.refusal_parts.proofs.Means.{business_reject_means}
use Rattle.reports_fix44.proofs.message.read_business_reject.Goals as goal

pub returns-clause-says : goal.returns-clause-says
returns-clause-says c =
    ap once_by (reads c.business_reject.ensures c.in_ok-fields.ensures _ refl)
    ∙ ap Ok
    (sym (business_reject_means header false false _ c.in_ok-business_reject.field-0
    c.in_ok-business_reject.ensures.says))
