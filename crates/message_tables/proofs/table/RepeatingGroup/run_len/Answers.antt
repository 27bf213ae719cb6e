use Rattle.std.proofs.Common.{◌≡◌, ◌+◌, ◌∙◌, sym, ap, drop, arith, Bool}
use Rattle.std.specs.List.{prefix_len}
use Rattle.std.proofs.lemmas.List.Sums.{prefix_len-drop_no, prefix_len-drop_yes}
use Rattle.std.proofs.lemmas.List.Sums.{prefix_len-drop_all}
use Rattle.field_groups.specs.Field.{Field}
use Rattle.message_tables.specs.Tables.{is_inside}
use Rattle.message_tables.specs.CodeTables.{seen, own_tags}
use Rattle.message_tables.proofs.Seen.{seen_lt, seen_le}
use Rattle.message_tables.proofs.Placed.{none}
use Rattle.message_tables.proofs.table.RepeatingGroup.run_len.Goals as goal

pub returns-then-not-has : goal.returns-then-not-has
returns-then-not-has g c =
    let inside : Field → Bool = λ f. is_inside (own_tags c.args.self.now) f.0 in
    let stops : prefix_len inside (drop c.loop-place.place (seen c.args.fields.now)) ≡ 0 =
    prefix_len-drop_no inside (seen c.args.fields.now) c.loop-place.place
    none (seen_lt c.args.fields.now c.loop-place.place c.loop-place-test.true)
    (ap inside (sym c.field_at-tag.ensures) ∙ sym c.if-not-has.ensures) in
    record { value = omega (arith, c.loop-place.invariant, stops); within = omega arith }

pub loop-place-preserved : goal.loop-place-preserved
loop-place-preserved g c =
    let inside : Field → Bool = λ f. is_inside (own_tags c.args.self.now) f.0 in
    let goes : prefix_len inside (drop c.loop-place.place (seen c.args.fields.now))
    ≡ 1 + prefix_len inside (drop (c.loop-place.place + 1) (seen c.args.fields.now)) =
    prefix_len-drop_yes inside (seen c.args.fields.now) c.loop-place.place
    none (seen_lt c.args.fields.now c.loop-place.place c.loop-place-test.true)
    (ap inside (sym c.field_at-tag.ensures) ∙ sym c.if-not-has.ensures) in
    omega (arith, c.loop-place.invariant, goes)

pub returns : goal.returns
returns g c =
    let inside : Field → Bool = λ f. is_inside (own_tags c.args.self.now) f.0 in
    let all : prefix_len inside (drop c.loop-place.place (seen c.args.fields.now)) ≡ 0 =
    prefix_len-drop_all inside (seen c.args.fields.now)
    c.loop-place.place (seen_le c.args.fields.now c.loop-place.place c.loop-place-test.false) in
    record { value = omega (arith, c.loop-place.invariant, all); within = omega arith }
