use Rattle.std.proofs.Common.{codes, refl, rules}
use Rattle.value_kinds.specs.ValueKind.{Id, Code}
use Rattle.row_values.specs.Kinds.{Value}
use Rattle.row_values.proofs.SaidRows.{full, full_text}
use Rattle.row_values.proofs.ByTable.{says}
use Rattle.dict_fix44.specs.Reports.{ord_statuses}
use Rattle.reports_fix44.specs.Message.{cancel_reject_table}
use Rattle.reports_fix44.proofs.Means.{◌&◌, reject_is}
use Rattle.reports_fix44.proofs.reading.cancel_reject_of.Goals as goal

pub returns-clause-says : goal.returns-clause-says
returns-clause-says c =
    let fields = c.args.fields.now in
    reject_is fields _ c.resend.ensures (λ h.
    let needs = says cancel_reject_table fields h in
    full_text _ _ (needs 0 37 (Value Id) refl refl) (search rules) & (search rules)
    & full_text _ _ (needs 2 11 (Value Id) refl refl) (search rules)
    & full_text _ _ (needs 3 41 (Value Id) refl refl) (search rules)
    & full _ _ (needs 4 39 (Value (Code ord_statuses)) refl refl) (search rules)
    & (search rules) & (search rules)
    & full _ _ (needs 7 434 (Value (Code (codes "12"))) refl refl) (search rules)
    & (search rules) & (search rules) & refl)
