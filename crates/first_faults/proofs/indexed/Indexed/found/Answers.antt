use Rattle.std.proofs.Common.{◌≤◌, length, map, subst, take, ◌++◌, ◌∷◌, [], arith}
use Rattle.message_tables.specs.FirstFault.{Marked, marked}
use Rattle.message_tables.specs.Stages.{IsFound}
use Rattle.row_values.specs.Kinds.{judge}
use Rattle.first_faults.proofs.GoodFront.{found_all, found_good, found_more, part, part_at}
use Rattle.first_faults.proofs.GoodFront.{parts_len}
use Rattle.first_faults.proofs.indexed.Indexed.found.Goals as goal

pub loop-place-init : goal.loop-place-init
loop-place-init c =
    found_good c.args.self.now c.args.fields.now c.args.good _ c.requires c.new-found.ensures

pub loop-place-preserved : goal.loop-place-preserved
loop-place-preserved c =
    let fields = c.args.fields.now in
    let parts = c.as_slice-parts.result.now in
    let place = c.loop-place.place in
    let before = map (marked judge c.args.self.now fields) (take place fields) in
    found_more c.args.self.now fields place (part parts place) _
    (part_at parts fields place c.as_slice-parts.ensures c.loop-place-test.true)
    (subst (λ (m : Marked). IsFound (before ++ m ∷ []) c.with-found.result) c.mark.ensures
    (c.with-found.ensures before c.loop-place.invariant))

pub returns : goal.returns
returns c =
    let all : length c.args.fields.now ≤ c.loop-place.place =
    omega (arith, parts_len _ c.args.fields.now c.as_slice-parts.ensures, c.loop-place-test.false) in
    found_all c.args.self.now c.args.fields.now c.loop-place.place _ all c.loop-place.invariant
