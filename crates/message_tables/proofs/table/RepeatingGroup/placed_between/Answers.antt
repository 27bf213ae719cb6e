use Rattle.std.proofs.Common.{◌≡◌, ◌∙◌, ℕ, ◌<◌, ◌==◌, None, sym, subst, ⊎_elim, length, arith}
use Rattle.std.proofs.lemmas.Bool.{cases_lt}
use Rattle.field_groups.specs.Field.{Field}
use Rattle.message_tables.specs.FirstFault.{misplaced, place_in}
use Rattle.message_tables.specs.CodeTables.{seen, seen_at, own_tags}
use Rattle.message_tables.proofs.Seen.{seen_lt}
use Rattle.message_tables.proofs.Placed.{apart_none, closed, few_more, said_more}
use Rattle.message_tables.proofs.table.RepeatingGroup.placed_between.Goals as goal

pub loop-place-init : goal.loop-place-init
loop-place-init g c =
    let fs = seen c.args.fields.now in
    let group = own_tags c.args.self.now in
    let before = closed fs group c.args.from c.args.to c.requires.apart in
    record {
      from = omega arith;
      placed = λ place lt.
          apart_none group (place_in fs place (seen_at c.args.fields.now place))
          (c.requires.apart.before place lt);
      opened = before.0;
      lines = before.1;
      few = omega arith;
    }

pub loop-place-preserved : goal.loop-place-preserved
loop-place-preserved g c =
    let fs = seen c.args.fields.now in
    let group = own_tags c.args.self.now in
    let f : Field = (c.field_at-tag.result.0, c.field_at-tag.result.1.now) in
    let i = c.loop-place.place in
    let said = c.loop-place.said in
    let known = c.loop-place.invariant in
    let lt : i < length fs =
    omega (arith, c.loop-place-test.true, c.requires.apart.within) in
    let more = said_more group fs i f said.opened said.lines lt c.field_at-tag.ensures
    known.opened known.lines in
    let none : misplaced (place_in fs i (seen_at c.args.fields.now i)) group ≡ None =
    rw c.in_default.is at (sym c.misplaced_by.ensures) in
    record {
      from = omega (arith, known.from);
      placed = λ place before.
          ⊎_elim (λ there. known.placed place there)
          (λ le. let same : i ≡ place = omega (arith, before, le) in
          subst (λ (p : ℕ). misplaced (place_in fs p (seen_at c.args.fields.now p)) group ≡ None)
          same none)
          (cases_lt place i);
      opened = (rw c.has-inside.ensures at c.with-said.ensures.opened) ∙ more.0;
      lines = (rw c.has-inside.ensures at c.with-said.ensures.lines) ∙ more.1;
      few = few_more c.has-inside.result (f.0 == group.first) c.with-said.result.lines
          said.lines i c.with-said.ensures.lines known.few;
    }

pub returns-clause-placed : goal.returns-clause-placed
returns-clause-placed g c = λ place lt.
    let fs = seen c.args.fields.now in
    let group = own_tags c.args.self.now in
    let within : place < length fs =
    seen_lt c.args.fields.now place (omega (arith, lt)) in
    ⊎_elim
    (λ there. c.loop-place.invariant.placed place (omega (arith, there, c.loop-place-test.false)))
    (λ behind. apart_none group (place_in fs place (seen_at c.args.fields.now place))
    (c.requires.apart.behind place behind within))
    (cases_lt place c.args.to)
