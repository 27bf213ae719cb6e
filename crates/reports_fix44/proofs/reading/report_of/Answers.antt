use Rattle.std.proofs.Common.{codes, lit<, refl, rules}
use Rattle.message_tables.specs.Tables.{first_of}
use Rattle.value_kinds.specs.ValueKind.{Id, Code, Qty, Price}
use Rattle.row_values.specs.Kinds.{Value}
use Rattle.row_values.proofs.SaidRows.{full, full_text}
use Rattle.row_values.proofs.ByTable.{says}
use Rattle.rows_fix50.proofs.Roles.{of_role}
use Rattle.dict_fix44.specs.Reports.{exec_types, ord_statuses}
use Rattle.reports_fix44.specs.Message.{report_table}
use Rattle.reports_fix44.proofs.Means.{◌&◌, report_is}
use Rattle.reports_fix44.proofs.reading.report_of.Goals as goal

pub returns-clause-says : goal.returns-clause-says
unfolding first_of
returns-clause-says c =
    let fields = c.args.fields.now in
    let groups = c.requires.groups in
    report_is fields _ c.resend.ensures groups.parties groups.contras (λ h lines.
    let needs = says report_table fields h in
    let party = of_role fields _ groups.parties lines in
    full_text _ _ (needs 0 37 (Value Id) refl refl) (search rules) & (search rules)
    & (search rules) & (search rules) & party 3 (lit< tt) & party 1 (lit< tt) & party 4 (lit< tt)
    & full_text _ _ (needs 9 17 (Value Id) refl refl) (search rules) & (search rules)
    & full _ _ (needs 11 150 (Value (Code exec_types)) refl refl)
    c.exec_type.ensures
    & full _ _ (needs 12 39 (Value (Code ord_statuses)) refl refl)
    (search rules) & (search rules) & (search rules) & (search rules) & (search rules)
    & (search rules) & full_text _ _ (needs 18 55 (Value Id) refl refl) (search rules)
    & (search rules) & (search rules) & (search rules) & (search rules)
    & c.maturity.ensures.says.month & c.maturity.ensures.says.date & (search rules)
    & full _ _ (needs 26 54 (Value (Code (codes "123456"))) refl refl) (search rules)
    & (search rules) & (search rules) & (search rules) & (search rules) & (search rules)
    & (search rules) & (search rules) & (search rules) & (search rules) & (search rules)
    & (search rules) & (search rules)
    & full _ _ (needs 39 151 (Value Qty) refl refl) c.qty_or_zero.ensures.text
    & full _ _ (needs 40 14 (Value Qty) refl refl) c.qty_or_zero-2.ensures.text
    & full _ _ (needs 41 6 (Value Price) refl refl) c.price_or_zero.ensures.text & (search rules)
    & (search rules) & (search rules) & (search rules) & (search rules) & refl)
