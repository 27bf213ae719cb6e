-- Own: what holds of the bytes of a journal of format 1; docs/DEFINITIONS.md, "Disk and journal".
use Rattle.std.specs.Prelude.{◌≡◌, ℕ, List}
use Rattle.pair_journal.specs.Journal.{Reading}
use Rattle.journal_migrate.specs.Format1.{JournalOf1}

-- the bytes stand for one thing at most
abbrev pub HasOneReading1 : List ℕ → Type 0
HasOneReading1 image = (x y : Reading) → JournalOf1 image x → JournalOf1 image y → x ≡ y
