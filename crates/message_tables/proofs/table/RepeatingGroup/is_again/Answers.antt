use Rattle.std.proofs.Common.{◌∙◌, sym, ap, arith, take, ◌-◌, List, eq-eqb}
use Rattle.std.proofs.lemmas.Bool.{ne_eqb}
use Rattle.std.specs.Prelude.{reverse}
use Rattle.field_groups.specs.Field.{Field}
use Rattle.message_tables.specs.Tables.{has_tag}
use Rattle.message_tables.specs.FirstFault.{line_before}
use Rattle.message_tables.specs.CodeTables.{seen, own_tags}
use Rattle.message_tables.proofs.Seen.{seen_most}
use Rattle.message_tables.proofs.Placed.{one_back, again_here, again_on}
use Rattle.message_tables.proofs.table.RepeatingGroup.is_again.Goals as goal

pub returns-then-other-tag : goal.returns-then-other-tag
returns-then-other-tag g c =
    let fs = seen c.args.before.now in
    let f : Field = (c.field_at-other.result.0, c.field_at-other.result.1.now) in
    let first = (own_tags c.args.self.now).first in
    let e = one_back fs c.loop-place.place f c.loop-place-test.true (seen_most c.args.before.now
    c.loop-place.place c.loop-place.invariant.within) c.field_at-other.ensures in
    sym (again_here first c.args.tag f (reverse (take (c.loop-place.place - 1) fs)) (rw (←
    c.first.ensures) (ne_eqb _ _ c.if-other-first.false)) (eq-eqb _ _ c.if-other-tag.true))
    ∙ sym (ap (λ (back : List Field). has_tag
    c.args.tag (line_before (own_tags c.args.self.now) back)) e) ∙ c.loop-place.invariant.same

pub loop-place-preserved : goal.loop-place-preserved
loop-place-preserved g c =
    let fs = seen c.args.before.now in
    let f : Field = (c.field_at-other.result.0, c.field_at-other.result.1.now) in
    let first = (own_tags c.args.self.now).first in
    let e = one_back fs c.loop-place.place f c.loop-place-test.true (seen_most c.args.before.now
    c.loop-place.place c.loop-place.invariant.within) c.field_at-other.ensures in
    record {
      within = omega (arith, c.loop-place.invariant.within);
      same = sym (again_on first c.args.tag f (reverse (take (c.loop-place.place - 1) fs)) (rw (←
          c.first.ensures) (ne_eqb _ _ c.if-other-first.false)) (ne_eqb _ _ c.if-other-tag.false))
          ∙ sym (ap (λ (back : List Field). has_tag c.args.tag
          (line_before (own_tags c.args.self.now) back)) e) ∙ c.loop-place.invariant.same;
    }
