use Rattle.std.proofs.Common.{sym, ◌∙◌}
use Rattle.std.proofs.lemmas.List.{get_or_default}
use Rattle.first_faults.proofs.OnePass.{next_row}
use Rattle.first_faults.proofs.faults.rows_fit.Goals as goal

pub loop-row-preserved : goal.loop-row-preserved
loop-row-preserved c =
    next_row c.args.fields.now c.args.rowed.now c.loop-row.rowed c.row_fits.new.rowed
    c.args.rows.now c.loop-row.row-index _
    (get_or_default c.args.rows.now c.loop-row.row-index _ _ c.loop-row-test.true)
    c.loop-row-test.true c.loop-row.invariant
    (sym c.row_fits.ensures.fits ∙ c.if-not-row_fits.false) c.row_fits.ensures.places
