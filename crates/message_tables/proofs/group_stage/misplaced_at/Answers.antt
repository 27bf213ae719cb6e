use Rattle.std.proofs.Common.{◌∙◌, sym}
use Rattle.message_tables.specs.FirstFault.{in_groups, misplaced, group_tags_of, place_in}
use Rattle.message_tables.specs.CodeTables.{seen, seen_at, item_of}
use Rattle.message_tables.proofs.Seen.{first_of-items}
use Rattle.message_tables.proofs.Loops.{first_none, first_passed, first_found, first_ended}
use Rattle.message_tables.proofs.group_stage.misplaced_at.Goals as goal

pub returns-in-Some : goal.returns-in-Some
returns-in-Some g c =
    let p =
    place_in (seen c.args.fields.now) c.args.place (seen_at c.args.fields.now c.args.place) in
    sym (first_of-items (misplaced p) group_tags_of c.args.table.now.items.now
    ∙ first_found (λ item. in_groups (group_tags_of (item_of (λ k. k) item)) p)
    c.args.table.now.items.now c.loop-item.item-index c.item-item.result
    _ c.item-item.is c.loop-item-test.true c.loop-item.invariant (sym c.in-Some.ensures))

pub loop-item-init : goal.loop-item-init
loop-item-init g c = first_none (λ item. in_groups (group_tags_of (item_of (λ k. k) item))
    (place_in (seen c.args.fields.now) c.args.place (seen_at c.args.fields.now c.args.place)))

pub loop-item-preserved : goal.loop-item-preserved
loop-item-preserved g c =
    let p =
    place_in (seen c.args.fields.now) c.args.place (seen_at c.args.fields.now c.args.place) in
    first_passed (λ item. in_groups (group_tags_of (item_of (λ k. k) item)) p)
    c.args.table.now.items.now c.loop-item.item-index c.item-item.result
    c.item-item.is c.loop-item-test.true c.loop-item.invariant (sym c.in_default.ensures)

pub returns : goal.returns
returns g c =
    let p =
    place_in (seen c.args.fields.now) c.args.place (seen_at c.args.fields.now c.args.place) in
    sym (first_of-items (misplaced p) group_tags_of c.args.table.now.items.now
    ∙ first_ended
    (λ item. in_groups (group_tags_of (item_of (λ k. k) item)) p) c.args.table.now.items.now
    c.loop-item.item-index c.loop-item-test.false c.loop-item.invariant)
