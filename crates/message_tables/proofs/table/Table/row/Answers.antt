use Rattle.std.proofs.Common.{sym, ap, ◌∙◌, option_map}
use Rattle.message_tables.specs.Tables.{or_else, first_of}
use Rattle.message_tables.specs.CodeTables.{row_of}
use Rattle.message_tables.proofs.Seen.{item_row, row-table}
use Rattle.message_tables.proofs.Loops.{first_none, first_passed, first_found, first_ended}
use Rattle.message_tables.proofs.table.Table.row.Goals as goal

pub returns-in-Some : goal.returns-in-Some
returns-in-Some g c =
    sym (row-table c.args.tag c.args.self.now ∙ ap (λ o. or_else (option_map (row_of (λ k. k)) o)
    (first_of (item_row c.args.tag) c.args.self.now.items.now)) (sym c.in-Some.ensures))

pub loop-item-init : goal.loop-item-init
loop-item-init g c = first_none (item_row c.args.tag)

pub returns-in-Some-row : goal.returns-in-Some-row
returns-in-Some-row g c =
    sym (row-table c.args.tag c.args.self.now
    ∙ ap (λ o. or_else (option_map (row_of (λ k. k)) o)
    (first_of (item_row c.args.tag) c.args.self.now.items.now)) (sym c.in_default.ensures)
    ∙ first_found
    (item_row c.args.tag) c.args.self.now.items.now c.loop-item.item-index c.item-item.result
    _ c.item-item.is c.loop-item-test.true c.loop-item.invariant (sym c.in-Some-row.ensures))

pub loop-item-preserved : goal.loop-item-preserved
loop-item-preserved g c = first_passed
    (item_row c.args.tag) c.args.self.now.items.now c.loop-item.item-index c.item-item.result
    c.item-item.is c.loop-item-test.true c.loop-item.invariant (sym c.in_default-row.ensures)

pub returns : goal.returns
returns g c =
    sym (row-table c.args.tag c.args.self.now
    ∙ ap (λ o. or_else (option_map (row_of (λ k. k)) o)
    (first_of (item_row c.args.tag) c.args.self.now.items.now)) (sym c.in_default.ensures)
    ∙ first_ended (item_row c.args.tag) c.args.self.now.items.now
    c.loop-item.item-index c.loop-item-test.false c.loop-item.invariant)
