use Rattle.std.proofs.Common.{[], refl}
use Rattle.kept_entries.specs.Numbers.{first_numbers}
use Rattle.book_laws.proofs.Lawful.{proper_after}
use Rattle.book_laws.proofs.laws.lawful_days_are_proper.Goals as goal

pub returns : goal.returns
returns c = λ names entries lawful sound.
    proper_after c.decisions_make.ensures names [] entries first_numbers refl sound lawful
