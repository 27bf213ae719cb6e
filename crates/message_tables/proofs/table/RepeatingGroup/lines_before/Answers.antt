use Rattle.std.proofs.Common.{◌∙◌, sym, ap, arith, take, ◌-◌}
use Rattle.std.proofs.Common.{eqb, eq-eqb}
use Rattle.std.proofs.lemmas.Bool.{ne_eqb}
use Rattle.std.specs.Prelude.{reverse}
use Rattle.field_groups.specs.Field.{Field}
use Rattle.message_tables.specs.Tables.{is_inside}
use Rattle.message_tables.specs.FirstFault.{lines_begun}
use Rattle.message_tables.specs.CodeTables.{seen, own_tags}
use Rattle.message_tables.proofs.Seen.{seen_most}
use Rattle.message_tables.proofs.Placed.{one_back, counted_on, counted_one}
use Rattle.message_tables.proofs.table.RepeatingGroup.lines_before.Goals as goal

pub loop-place-preserved-then-tag-first : goal.loop-place-preserved-then-tag-first
loop-place-preserved-then-tag-first g c =
    let fs = seen c.args.before.now in
    let f : Field = (c.field_at-tag.result.0, c.field_at-tag.result.1.now) in
    let group = own_tags c.args.self.now in
    let e = one_back fs c.loop-place.place f c.loop-place-test.true (seen_most c.args.before.now
    c.loop-place.place c.loop-place.invariant.within) c.field_at-tag.ensures in
    let counts = ap (lines_begun group) e ∙ counted_one (λ h. eqb h.0 group.first)
    (λ h. is_inside group h.0) f (reverse (take (c.loop-place.place - 1) fs))
    (sym c.if-not-has.ensures) (rw (← c.first.ensures) (eq-eqb _ _ c.if-tag-first.true)) in
    record {
      within = omega (arith, c.loop-place.invariant.within);
      same = omega (arith, c.loop-place.invariant.same, counts);
    }

pub loop-place-preserved : goal.loop-place-preserved
loop-place-preserved g c =
    let fs = seen c.args.before.now in
    let f : Field = (c.field_at-tag.result.0, c.field_at-tag.result.1.now) in
    let group = own_tags c.args.self.now in
    let e = one_back fs c.loop-place.place f c.loop-place-test.true (seen_most c.args.before.now
    c.loop-place.place c.loop-place.invariant.within) c.field_at-tag.ensures in
    let counts = ap (lines_begun group) e ∙ counted_on (λ h. eqb h.0 group.first)
    (λ h. is_inside group h.0) f (reverse (take (c.loop-place.place - 1) fs))
    (sym c.if-not-has.ensures) (rw (← c.first.ensures) (ne_eqb _ _ c.if-tag-first.false)) in
    record {
      within = omega (arith, c.loop-place.invariant.within);
      same = omega (arith, c.loop-place.invariant.same, counts);
    }
