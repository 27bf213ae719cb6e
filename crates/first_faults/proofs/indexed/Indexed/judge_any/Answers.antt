use Rattle.std.proofs.Common.{false, true, sym, subst, ◌∙◌}
use Rattle.message_tables.specs.Tables.{Table}
use Rattle.message_tables.specs.FirstFault.{once_in}
use Rattle.message_tables.specs.CodeTables.{table_of}
use Rattle.message_tables.proofs.OnePass.{first_is_once}
use Rattle.row_values.specs.CodeKinds.{kind_of}
use Rattle.row_values.specs.Kinds.{Kind}
use Rattle.first_faults.specs.Indexed.{IsGoodField}
use Rattle.first_faults.proofs.ByTags.{other_good, own_good, passed_good}
use Rattle.first_faults.proofs.OnePass.{member_loose}
use Rattle.first_faults.proofs.indexed.Indexed.judge_any.Goals as goal

pub returns-then-value_fits : goal.returns-then-value_fits
returns-then-value_fits c =
    subst (λ (t : Table Kind). IsGoodField t c.args.fields.now c.args.place true) c.self.view_is
    (own_good c.self.inside.table.now c.args.fields.now c.args.place c.in_ok-tag.tag
    c.in_ok-tag.value.now c.in-Own.row.now c.in_ok-tag.ensures c.in-Own.ensures.0
    c.in-Own.ensures.1
    (first_is_once (once_in (table_of kind_of c.self.inside.table.now)) c.args.fields.now
    c.in_ok-tag.tag c.args.place (c.is_first.ensures c.if-is_first.true))
    (sym c.value_fits.ensures ∙ c.if-value_fits.true))

pub returns-then-value_fits-2 : goal.returns-then-value_fits-2
returns-then-value_fits-2 c =
    subst (λ (t : Table Kind). IsGoodField t c.args.fields.now c.args.place false) c.self.view_is
    (other_good _ c.args.fields.now c.args.place
    (member_loose c.self.inside.table.now c.args.fields.now c.args.place c.in_ok-tag.tag
    c.in_ok-tag.value.now c.in_ok-tag.ensures c.in-Member.ensures.1 c.in-Member.row.now
    c.in-Member.ensures.0 (sym c.value_fits-in-Member.ensures ∙ c.if-value_fits-2.true)))

pub returns-then-is_loose : goal.returns-then-is_loose
returns-then-is_loose c =
    subst (λ (t : Table Kind). IsGoodField t c.args.fields.now c.args.place false) c.self.view_is
    (other_good _ c.args.fields.now c.args.place (c.is_loose.ensures c.if-is_loose.true))

pub returns-then-not-is_empty : goal.returns-then-not-is_empty
returns-then-not-is_empty c =
    subst (λ (t : Table Kind). IsGoodField t c.args.fields.now c.args.place false) c.self.view_is
    (passed_good c.self.inside.table.now c.args.fields.now c.args.place c.in_ok-tag.tag
    c.in_ok-tag.value.now c.in_ok-tag.ensures c.in-Passed.ensures
    (c.is_first-in-Passed.ensures c.if-is_first-2.true)
    (sym c.is_empty.ensures ∙ c.if-not-is_empty.true))
