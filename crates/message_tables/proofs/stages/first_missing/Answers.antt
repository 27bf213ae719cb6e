use Rattle.std.proofs.Common.{◌∙◌, sym}
use Rattle.message_tables.specs.FirstFault.{missing_of}
use Rattle.message_tables.specs.CodeTables.{item_of}
use Rattle.message_tables.proofs.Clean.{first_of-map}
use Rattle.message_tables.proofs.Loops.{first_none, first_passed, first_found, first_ended}
use Rattle.message_tables.proofs.stages.first_missing.Goals as goal

pub returns-in-Some : goal.returns-in-Some
returns-in-Some g c =
    sym (sym (first_of-map
    (missing_of c.args.fields.now) (item_of (λ k. k)) c.args.table.now.items.now)
    ∙ first_found (λ item. missing_of c.args.fields.now (item_of (λ k. k) item))
    c.args.table.now.items.now c.loop-item.item-index c.item-item.result
    _ c.item-item.is c.loop-item-test.true c.loop-item.invariant (sym c.in-Some.ensures))

pub loop-item-init : goal.loop-item-init
loop-item-init g c =
    first_none (λ item. missing_of c.args.fields.now (item_of (λ k. k) item))

pub loop-item-preserved : goal.loop-item-preserved
loop-item-preserved g c =
    first_passed (λ item. missing_of c.args.fields.now (item_of (λ k. k) item))
    c.args.table.now.items.now c.loop-item.item-index c.item-item.result
    c.item-item.is c.loop-item-test.true c.loop-item.invariant (sym c.in_default.ensures)

pub returns : goal.returns
returns g c =
    sym (sym (first_of-map
    (missing_of c.args.fields.now) (item_of (λ k. k)) c.args.table.now.items.now)
    ∙ first_ended (λ item. missing_of c.args.fields.now (item_of (λ k. k) item))
    c.args.table.now.items.now
    c.loop-item.item-index c.loop-item-test.false c.loop-item.invariant)
