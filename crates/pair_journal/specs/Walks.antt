-- Own: walks over the records of a journal, which read each of them once.
use Rattle.std.specs.Prelude.{ℕ, ◌≤◌, List}
use Rattle.std.specs.Option.{ForSome}
use Rattle.std.specs.declared.option.Option.{Option}
use Rattle.order_meaning.specs.declared.Side.{Side}
use Rattle.gate_log.specs.Chunk.{IsOf}
use Rattle.pair_entries.specs.declared.entry.Entry.{Entry}
use Rattle.kept_entries.specs.Numbers.{next_out}
use Rattle.kept_entries.specs.Spots.{day_start, IsSpot}
use Rattle.pair_journal.specs.declared.walk.Walk.{Walk}

-- What a walk read last are bytes that the disk tells, and it has not passed the entry of this
-- index.
abbrev pub IsUpTo : Option (List ℕ) → List Entry → ℕ → Walk → Type 0
IsUpTo told entries index walk = IsOf told walk.chunk
    × ForSome told (λ _. IsSpot entries walk.spot × (walk.spot.index ≤ index))

-- the same, and it has not passed the out of this number of the last day, or is not yet there
abbrev pub IsWalk : Option (List ℕ) → List Entry → Side → ℕ → Walk → Type 0
IsWalk told entries side number walk = IsOf told walk.chunk
    × ForSome told (λ _. IsSpot entries walk.spot
    × (day_start entries ≤ walk.spot.index → next_out side walk.spot.next ≤ number))

-- a walk before the first of all entries, of any disk
abbrev pub BeginsEntries : Walk → Type 0
BeginsEntries walk = (told : Option (List ℕ)) (entries : List Entry) → IsUpTo told entries 0 walk

-- a walk before the first of all outs, of any disk
abbrev pub BeginsOuts : Walk → Type 0
BeginsOuts walk = (told : Option (List ℕ)) (entries : List Entry) (side : Side) (number : ℕ)
    → 1 ≤ number → IsWalk told entries side number walk
