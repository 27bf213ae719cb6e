-- Worked words and texts, by computation alone.
use Rattle.std.proofs.Common.{◌≡◌, [], ◌∷◌, refl, true, false, Some, None}
use Rattle.std.specs.Prelude.{codes}
use Rattle.order_meaning.specs.declared.Side.TheVariants.{Venue}
use Rattle.row_words.specs.Words.{is_passed, first_of, rest_of, behind, side_of}

comment : is_passed (codes "# a comment") ≡ true
comment = refl

row : is_passed (codes "Flag Y = true") ≡ false
row = refl

first : first_of (codes "4 Y -") ≡ codes "4"
first = refl

rest : rest_of (codes "4 Y -") ≡ codes "Y -"
rest = refl

-- two spaces have an empty word between them
empty : first_of (behind 1 (codes "4  Y")) ≡ []
empty = refl

-- behind more words than there are stands nothing
past : behind 3 (codes "4 Y") ≡ []
past = refl

venue : side_of (codes "Venue") ≡ Some Venue
venue = refl

other : side_of (codes "venue") ≡ None
other = refl
