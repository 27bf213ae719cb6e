use Rattle.std.proofs.Common.{◌≤◌, length, subst, sym, arith}
use Rattle.std.specs.List.{AllByRecursion}
use Rattle.message_tables.specs.Tables.{Table}
use Rattle.row_values.specs.Kinds.{Kind}
use Rattle.first_faults.specs.Indexed.{AreSaid, IsApartItem, IsWholeItem}
use Rattle.first_faults.proofs.ByTags.{alone_fields, apart_items, no_fields}
use Rattle.first_faults.proofs.ByTags.{whole_fields}
use Rattle.first_faults.proofs.Marked.{all_come, none_come}
use Rattle.first_faults.proofs.indexed.Indexed.good_len.Goals as goal

pub loop-place-init : goal.loop-place-init
loop-place-init c = (no_fields c.args.self.now c.args.fields.now, none_come c.self.inside.rows)

pub returns-then-span-eq0-clause-none : goal.returns-then-span-eq0-clause-none
returns-then-span-eq0-clause-none c =
    let fields = c.args.fields.now in
    let place = c.loop-place.place in
    let all : length fields ≤ place =
    omega (arith, c.len-place-end.ensures.value, c.loop-place-test.false) in
    alone_fields c.args.self.now fields place c.loop-place.span all c.loop-place.invariant.0
    (subst (λ (t : Table Kind). AreSaid fields t.items) c.self.view_is
    (c.are_said_by.ensures c.if-not-are_said_by.false c.self.inside.rows
    (all_come c.self.inside.rows fields place c.loop-place.come all c.loop-place.invariant.1)
    c.self.inside.table.now.items.now c.self.invariant.1))
    c.if-span-eq0.true

pub are_whole-requires : goal.are_whole-requires
are_whole-requires c =
    let good = c.loop-place.invariant.0 in
    let fields = c.args.fields.now in
    let all : length fields ≤ c.loop-place.place =
    omega (arith, c.len-place-end.ensures.value, c.loop-place-test.false) in
    subst (λ (t : Table Kind). AllByRecursion (IsApartItem fields c.loop-place.span) t.items)
    (sym c.self.view_is)
    (apart_items fields c.loop-place.span c.args.self.now.items good.ordered
    (omega (arith, good.within, c.len-place-end.ensures.value)) good.before
    (λ i le lt. good.behind i le (omega (arith, lt, all))))

pub returns-then-are_whole-clause-none : goal.returns-then-are_whole-clause-none
returns-then-are_whole-clause-none c =
    let fields = c.args.fields.now in
    let place = c.loop-place.place in
    let all : length fields ≤ place =
    omega (arith, c.len-place-end.ensures.value, c.loop-place-test.false) in
    whole_fields c.args.self.now fields place c.loop-place.span all c.loop-place.invariant.0
    (subst (λ (t : Table Kind). AreSaid fields t.items) c.self.view_is
    (c.are_said_by.ensures c.if-not-are_said_by.false c.self.inside.rows
    (all_come c.self.inside.rows fields place c.loop-place.come all c.loop-place.invariant.1)
    c.self.inside.table.now.items.now c.self.invariant.1))
    (subst (λ (t : Table Kind). AllByRecursion (IsWholeItem fields) t.items)
    c.self.view_is (c.are_whole.ensures c.if-are_whole.true))
