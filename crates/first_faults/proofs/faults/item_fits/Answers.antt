use Rattle.std.proofs.Common.{sym, ◌∙◌}
use Rattle.first_faults.proofs.faults.item_fits.Goals as goal

pub returns-in-One : goal.returns-in-One
returns-in-One c = λ yes.
    rw c.in-One.is (record {
      fits = sym c.row_fits.ensures.fits ∙ yes;
      places = c.row_fits.ensures.places;
    })
