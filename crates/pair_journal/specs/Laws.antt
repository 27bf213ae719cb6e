-- Own: what holds of the bytes of a journal; docs/DEFINITIONS.md, "Disk and journal".
use Rattle.std.specs.Prelude.{◌≡◌, ℕ, List}
use Rattle.pair_journal.specs.Journal.{Reading, JournalOf}

-- The bytes stand for one thing at most: for no journal yet, for one of these names and entries, or
-- they are refused at one place.
abbrev pub HasOneReading : List ℕ → Type 0
HasOneReading image = (x y : Reading) → JournalOf image x → JournalOf image y → x ≡ y
