use Rattle.std.proofs.Common.{refl, sym, ◌∙◌}
use Rattle.first_faults.proofs.faults.any_fits.Goals as goal

pub returns-in-One : goal.returns-in-One
returns-in-One c = λ yes.
    rw c.in-One.is (record {
      fits = sym c.row_fits.ensures.fits ∙ yes;
      places = c.row_fits.ensures.places;
    })

pub returns-in-Party : goal.returns-in-Party
returns-in-Party c = λ yes. rw c.in-Party.is (record { fits = tt; places = refl })

pub returns-in-Lines : goal.returns-in-Lines
returns-in-Lines c = λ yes. rw c.in-Lines.is (c.lines_fit.ensures yes)
