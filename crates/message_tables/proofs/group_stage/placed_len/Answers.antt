use Rattle.std.proofs.Common.{◌<◌, ◌∙◌, arith, min}
use Rattle.message_tables.specs.FirstFault.{in_groups, misplaced, group_tags_of}
use Rattle.message_tables.specs.CodeTables.{item_of}
use Rattle.message_tables.specs.Plain.{placed_at}
use Rattle.message_tables.proofs.Seen.{first_of-items}
use Rattle.message_tables.proofs.Loops.{first_none, first_passed, first_ended, least}
use Rattle.message_tables.proofs.group_stage.placed_len.Goals as goal

pub loop-item-init : goal.loop-item-init
loop-item-init g c = record {
  within = omega arith;
  placed = λ place lt.
      first_none (λ item. in_groups (group_tags_of (item_of (λ k. k) item))
      (placed_at c.args.fields.now place));
}

pub loop-item-preserved : goal.loop-item-preserved
loop-item-preserved g c =
    let len = c.loop-item.len in
    let here = c.placed_len.result in
    record {
      within =
          rw c.min-len.ensures ((least len here).1 _ c.loop-item.invariant.within);
      placed = λ place lt.
          let below : place < min len here = rw c.min-len.ensures at lt in
          let both = (least len here).0 place below in
          first_passed (λ item. in_groups (group_tags_of (item_of (λ k. k) item))
          (placed_at c.args.fields.now place))
          c.args.table.now.items.now c.loop-item.item-index c.item-item.result
          c.item-item.is c.loop-item-test.true (c.loop-item.invariant.placed place both.0)
          (c.placed_len.ensures.placed place both.1);
    }

pub returns-clause-placed : goal.returns-clause-placed
returns-clause-placed g c = λ place lt.
    let p = placed_at c.args.fields.now place in
    first_of-items (misplaced p) group_tags_of c.args.table.now.items.now
    ∙ first_ended
    (λ item. in_groups (group_tags_of (item_of (λ k. k) item)) p) c.args.table.now.items.now
    c.loop-item.item-index c.loop-item-test.false (c.loop-item.invariant.placed place lt)
