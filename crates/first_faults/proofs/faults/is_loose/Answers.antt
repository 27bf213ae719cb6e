use Rattle.std.proofs.Common.{◌≡◌, true, sym, ◌∙◌}
use Rattle.message_tables.specs.Plain.{is_good}
use Rattle.first_faults.proofs.OnePass.{member_loose, once_loose, stranger_loose}
use Rattle.first_faults.proofs.faults.is_loose.Goals as goal

pub returns-in-Again : goal.returns-in-Again
returns-in-Again c = λ yes.
    member_loose c.args.table.now c.args.fields.now c.args.place c.in-Some.tag c.in-Some.value.now
    c.in-Some.ensures c.in-Again.ensures.0 c.in-Again.row.now c.in-Again.ensures.1
    (sym c.value_fits.ensures ∙ yes)

pub returns-in-WithoutRow : goal.returns-in-WithoutRow
returns-in-WithoutRow c = λ yes.
    let good : is_good c.without_row.result ≡ true = sym c.is_good.ensures ∙ yes in
    stranger_loose c.args.table.now c.args.fields.now c.args.place c.in-Some.tag
    c.in-Some.value.now c.in-Some.ensures c.in-WithoutRow.ensures.0 c.in-WithoutRow.ensures.1
    (rw c.without_row.ensures at good)

pub returns-then-is_first : goal.returns-then-is_first
returns-then-is_first c = λ yes.
    once_loose c.args.table.now c.args.fields.now c.args.place c.in-Some.tag c.in-Some.value.now
    c.in-Some.ensures (c.is_first.ensures c.if-is_first.true) c.mark.result c.mark.ensures
    (sym c.is_good-then-is_first.ensures ∙ yes)
