use Rattle.std.proofs.Common.{◌∙◌, sym}
use Rattle.message_tables.specs.FirstFault.{missing}
use Rattle.message_tables.specs.CodeTables.{seen, row_of}
use Rattle.message_tables.proofs.Clean.{first_of-map}
use Rattle.message_tables.proofs.Loops.{first_none, first_passed, first_found, first_ended}
use Rattle.message_tables.proofs.stages.missing_in.Goals as goal

pub returns-in-Some : goal.returns-in-Some
returns-in-Some g c =
    sym (sym (first_of-map (missing (seen c.args.line.now)) (row_of (λ k. k)) c.args.rows.now)
    ∙ first_found (λ row. missing (seen c.args.line.now) (row_of (λ k. k) row))
    c.args.rows.now c.loop-row.row-index c.row-item.result
    _ c.row-item.is c.loop-row-test.true c.loop-row.invariant (sym c.in-Some.ensures))

pub loop-row-init : goal.loop-row-init
loop-row-init g c = first_none (λ row. missing (seen c.args.line.now) (row_of (λ k. k) row))

pub loop-row-preserved : goal.loop-row-preserved
loop-row-preserved g c = first_passed (λ row. missing (seen c.args.line.now) (row_of (λ k. k) row))
    c.args.rows.now c.loop-row.row-index c.row-item.result
    c.row-item.is c.loop-row-test.true c.loop-row.invariant (sym c.in_default.ensures)

pub returns : goal.returns
returns g c =
    sym (sym (first_of-map (missing (seen c.args.line.now)) (row_of (λ k. k)) c.args.rows.now)
    ∙ first_ended (λ row. missing (seen c.args.line.now) (row_of (λ k. k) row))
    c.args.rows.now c.loop-row.row-index c.loop-row-test.false c.loop-row.invariant)
