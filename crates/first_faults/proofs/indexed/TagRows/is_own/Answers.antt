use Rattle.std.proofs.Common.{◌≡◌, sym, take, ◌∙◌}
use Rattle.std.specs.Int.{bit_at}
use Rattle.first_faults.specs.Indexed.{IsWithBit, front_place}
use Rattle.first_faults.proofs.ByTags.{new_good}
use Rattle.first_faults.proofs.Marked.{come_before, not_come, one_come, other_come}
use Rattle.first_faults.proofs.indexed.TagRows.is_own.Goals as goal

pub returns-then-is_new-clause-good : goal.returns-then-is_new-clause-good
returns-then-is_new-clause-good c = λ yes.
    let unset : bit_at c.args.come.now (front_place c.args.self.now c.args.field.0) ≡ 0 =
    rw c.front_place.ensures.place at c.is_new.ensures.new c.if-is_new.true in
    new_good c.args.table.now c.args.fields.now c.args.place c.args.field.0
    c.args.field.1.now c.in-Some.row.now c.requires.at c.in-Some.ensures.first.0
    c.in-Some.ensures.first.1
    (not_come c.args.self.now (take c.args.place c.args.fields.now) c.args.come.now
    c.args.field.0 c.in-Some.row c.in-Some.ensures.row unset c.requires.come)
    (sym c.accepts.ensures ∙ yes)

pub returns-then-is_new-clause-come : goal.returns-then-is_new-clause-come
returns-then-is_new-clause-come c =
    let bit : IsWithBit c.args.come.now (front_place c.args.self.now c.args.field.0)
    c.is_new.new.come =
    rw c.front_place.ensures.place at c.is_new.ensures.come in
    come_before c.args.self.now c.args.fields.now c.args.place
    (c.args.field.0, c.args.field.1.now) c.is_new.new.come c.requires.at
    (one_come c.args.self.now (take c.args.place c.args.fields.now) c.args.field.0
    c.args.field.1.now c.args.come.now c.is_new.new.come c.in-Some.row c.in-Some.ensures.row bit
    c.requires.come)

pub returns-else-is_new-clause-come : goal.returns-else-is_new-clause-come
returns-else-is_new-clause-come c =
    let bit : IsWithBit c.args.come.now (front_place c.args.self.now c.args.field.0)
    c.is_new.new.come =
    rw c.front_place.ensures.place at c.is_new.ensures.come in
    come_before c.args.self.now c.args.fields.now c.args.place
    (c.args.field.0, c.args.field.1.now) c.is_new.new.come c.requires.at
    (one_come c.args.self.now (take c.args.place c.args.fields.now) c.args.field.0
    c.args.field.1.now c.args.come.now c.is_new.new.come c.in-Some.row c.in-Some.ensures.row bit
    c.requires.come)

pub returns-in-None-clause-come : goal.returns-in-None-clause-come
returns-in-None-clause-come c =
    come_before c.args.self.now c.args.fields.now c.args.place
    (c.args.field.0, c.args.field.1.now) c.args.come.now c.requires.at
    (other_come c.args.self.now (take c.args.place c.args.fields.now) c.args.field.0
    c.args.field.1.now c.args.come.now c.in-None.ensures.row c.requires.come)
