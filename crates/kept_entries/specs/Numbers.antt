-- Own: numbers that go on from one entry to the next; docs/DEFINITIONS.md, "Disk and journal".
use Rattle.std.specs.Prelude.{◌≡◌, ◌⊎◌, ℕ, ◌+◌, ◌≤◌, Bool, true, false, List, [], ◌∷◌, length}
use Rattle.std.specs.Prelude.{filter, Some, None, if◌then◌else◌}
use Rattle.order_meaning.specs.declared.Side.{Side}
use Rattle.order_meaning.specs.declared.Side.TheVariants.{Client, Venue}
use Rattle.pair_entries.specs.declared.entry.Out.{Out}
use Rattle.pair_entries.specs.declared.entry.Entry.{Entry}
use Rattle.pair_entries.specs.Payload.{Next}

-- before the first entry
abbrev pub first_numbers : Next
first_numbers = (1, 1, 1, 1)

-- before an entry, where these stand behind those before it: a day begins with the first
abbrev pub numbers_before : Next → Entry → Next
numbers_before before entry = if entry.reset then first_numbers else before

abbrev pub next_in : Side → Next → ℕ
next_in Client next = next.0
next_in Venue next = next.2

abbrev pub next_out : Side → Next → ℕ
next_out Client next = next.1
next_out Venue next = next.3

abbrev pub is_side : Side → Side → Bool
is_side Client Client = true
is_side Venue Venue = true
is_side Client Venue = false
is_side Venue Client = false

abbrev pub outs_to : Side → List Out → List Out
outs_to side outs = filter (λ out. is_side side out.side) outs

-- outs numbered n, n + 1, ..
abbrev pub Numbered : ℕ → List Out → Type 0
Numbered n [] = Unit {0}
Numbered n (out ∷ outs) = (out.number ≡ n) × Numbered (n + 1) outs

-- the outs of a side count up from its next out, which is then one past the last
pub record OutsGoOn (side : Side) (before : Next) (entry : Entry) : Type 0 where
  pub numbered : Numbered (next_out side before) (outs_to side entry.outs)
  pub next : next_out side entry.next ≡ next_out side before + length (outs_to side entry.outs)

-- the next in of a side is as before, unless the entry took a message of that side
abbrev pub InStays : Side → Next → Entry → Type 0
InStays side before entry = elim entry.took [
  | None ↦ next_in side entry.next ≡ next_in side before
  | Some took ↦ elim (is_side side took.side) [
    | true ↦ Unit {0}
    | false ↦ next_in side entry.next ≡ next_in side before
  ]
]

pub record GoesOn (before : Next) (entry : Entry) : Type 0 where
  pub client_out : OutsGoOn Client before entry
  pub venue_out : OutsGoOn Venue before entry
  pub client_in : InStays Client before entry
  pub venue_in : InStays Venue before entry

abbrev pub AllGoOn : Next → List Entry → Type 0
AllGoOn before [] = Unit {0}
AllGoOn before (entry ∷ entries) = GoesOn before entry × AllGoOn entry.next entries

-- the next numbers after these entries
abbrev pub numbers_after : Next → List Entry → Next
numbers_after before [] = before
numbers_after before (entry ∷ entries) = numbers_after entry.next entries

-- What taking a body does to the number that is expected: it counts one, or fills a gap up to a
-- number, or resets to one whatever its own number.
pub data Taking : Type 0 where
  Counts : Taking
  Fills : (to : ℕ) → Taking
  Resets : (to : ℕ) → Taking

abbrev pub Takes : Taking → ℕ → ℕ → ℕ → Type 0
Takes Counts number before after = (number ≡ before) × (after ≡ number + 1)
Takes (Fills to) number before after = (number ≡ before) × ((after ≡ to) ⊎ (after ≡ number + 1))
Takes (Resets to) number before after = (after ≡ to) × (before ≤ to)

abbrev pub TookGoesOn : (Side → List ℕ → Taking) → Next → Entry → Type 0
TookGoesOn taking before entry = elim entry.took [
  | None ↦ Unit {0}
  | Some took ↦ Takes (taking took.side took.raw)
      took.number (next_in took.side before) (next_in took.side entry.next)
]
