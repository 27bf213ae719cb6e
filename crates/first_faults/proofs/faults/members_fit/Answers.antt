use Rattle.std.proofs.Common.{sym, ◌∙◌}
use Rattle.std.proofs.lemmas.List.{get_or_default}
use Rattle.first_faults.proofs.OnePass.{next_member}
use Rattle.first_faults.proofs.faults.members_fit.Goals as goal

pub loop-row-preserved : goal.loop-row-preserved
loop-row-preserved c =
    next_member c.args.fields.now c.args.rowed.now c.loop-row.rowed c.member_fits.new.rowed
    c.args.rows.now c.loop-row.row-index _
    (get_or_default c.args.rows.now c.loop-row.row-index _ _ c.loop-row-test.true)
    c.loop-row-test.true c.loop-row.invariant
    (sym c.member_fits.ensures.fits ∙ c.if-not-member_fits.false) c.member_fits.ensures.places
