use Rattle.std.proofs.Common.{codes, refl, rules}
use Rattle.value_kinds.specs.ValueKind.{Id, Code, Qty, Price}
use Rattle.row_values.specs.Kinds.{Value}
use Rattle.row_values.proofs.SaidRows.{full, full_text}
use Rattle.row_values.proofs.Days.{dated}
use Rattle.row_values.proofs.ByTable.{says}
use Rattle.reports_fix42.specs.Message.{execution_report_table}
use Rattle.reports_fix42.proofs.Means.{◌&◌, report_is}
use Rattle.reports_fix42.proofs.reading.report_of.Goals as goal

pub returns-clause-says : goal.returns-clause-says
returns-clause-says c =
    let fields = c.args.fields.now in
    report_is fields _ c.resend.ensures c.requires.contras (λ h.
    let needs = says execution_report_table fields h in
    full_text _ _ (needs 0 37 (Value Id) refl refl) (search rules) & (search rules)
    & (search rules) & (search rules) & (search rules) & (search rules) & (search rules)
    & full_text _ _ (needs 8 17 (Value Id) refl refl) (search rules)
    & full _ _ (needs 9 20 (Value (Code (codes "0123"))) refl refl) c.code_or_zero.ensures
    & (search rules)
    & full _ _ (needs 11 150 (Value (Code (codes "0123456789ABCDE"))) refl refl)
    c.code_or_zero-2.ensures
    & full _ _ (needs 12 39 (Value (Code (codes "0123456789ABCDE"))) refl refl)
    c.code_or_zero-3.ensures & c.reason.ensures.text & c.reason-2.ensures.text & (search rules)
    & c.code.ensures & c.day.ensures.text
    & full_text _ _ (needs 18 55 (Value Id) refl refl) (search rules) & (search rules)
    & (search rules) & c.code-2.ensures & (search rules) & c.month_and_day.ensures.says.month
    & c.month_and_day.ensures.says.day
    (dated execution_report_table fields h 23 refl refl)
    & (search rules)
    & full _ _ (needs 26 54 (Value (Code (codes "123456"))) refl refl) c.code_or_zero-4.ensures
    & c.qty.ensures.text & c.code-3.ensures & c.price.ensures.text & c.price-2.ensures.text
    & (search rules) & c.code-4.ensures & c.day-2.ensures.text & c.stamp.ensures.text
    & c.code-5.ensures & c.qty-2.ensures.text & c.price-3.ensures.text & (search rules)
    & full _ _ (needs 39 151 (Value Qty) refl refl) c.qty_or_zero.ensures.text
    & full _ _ (needs 40 14 (Value Qty) refl refl) c.qty_or_zero-2.ensures.text
    & full _ _ (needs 41 6 (Value Price) refl refl) c.price_or_zero.ensures.text
    & c.day-3.ensures.text & c.stamp-2.ensures.text & c.qty-3.ensures.text & c.qty-4.ensures.text
    & (search rules) & refl)
