-- Own: what is printed of the bytes of a disk; docs/DEFINITIONS.md, "Taps and lines".
use Rattle.std.specs.Prelude.{◌≡◌, ◌≢◌, ◌⊎◌, ℕ, ◌+◌, ◌≤◌, List, [], ◌∷◌, ◌++◌, codes}
use Rattle.std.specs.Prelude.{Result, Ok, Err}
use Rattle.std.specs.declared.option.Option.{Option}
use Rattle.std.specs.Io.KnownBytes.{Appends}
use Rattle.outside.specs.Bytes.{AppendsFront, PutAppends}
use Rattle.outside.specs.Causes.{Rose}
use Rattle.pair_entries.specs.declared.entry.Entry.{Entry}
use Rattle.pair_journal.specs.declared.error.JournalError.{JournalError}
use Rattle.pair_journal.specs.declared.error.JournalError.TheVariants as journals
use Rattle.pair_journal.specs.Journal.{Reading, JournalOf, Unborn, Born, Refused}
use Rattle.entry_lines.specs.EntryLine.{entry_line}
use Rattle.journal_show.specs.declared.journal_lines.ShowError.{ShowError}
use Rattle.journal_show.specs.declared.journal_lines.ShowError.TheVariants as errors

-- the line of each entry, numbered from this number on
abbrev pub lines_from : ℕ → List Entry → List ℕ
lines_from number [] = []
lines_from number (entry ∷ entries) = entry_line number entry ++ lines_from (number + 1) entries

abbrev pub unborn_line : List ℕ
unborn_line = codes "unborn\n"

-- what is printed of what the bytes of a disk stand for
abbrev pub shown : Reading → List ℕ
shown Unborn = unborn_line
shown (Born names entries) = lines_from 1 entries
shown (Refused at) = []

-- a journal, or none yet
abbrev pub IsReadable : Reading → Type 0
IsReadable Unborn = Unit {0}
IsReadable (Born names entries) = Unit {0}
IsReadable (Refused at) = ⊥

-- a front of what is printed of these bytes, which are not refused, was put
abbrev pub PutsFront : List ℕ → Option (List ℕ) → Option (List ℕ) → Type 0
PutsFront bytes old new =
    (reading : Reading) × JournalOf bytes reading × IsReadable reading
    × AppendsFront old new (shown reading)

-- What was put, by the answer: at `Ok` all that is printed of the bytes; a front of it where the
-- output failed; nothing exactly where the bytes are refused, at that place; nothing, or a front of
-- it, where the disk failed or for want of memory.
abbrev pub Shows : {T : Type 0} → List ℕ → Result T ShowError
    → Option (List ℕ) → Option (List ℕ) → Type 0
Shows bytes (Ok value) old new =
    (reading : Reading) × JournalOf bytes reading × IsReadable reading
    × Appends old new (shown reading)
Shows bytes (Err errors.OutputFault) old new = PutsFront bytes old new
Shows bytes (Err (errors.JournalRefused at)) old new =
    JournalOf bytes (Refused at) × Appends old new []
Shows bytes (Err other) old new = Appends old new [] ⊎ PutsFront bytes old new

-- WHATEVER THE DISK TELLS, what was put is what is printed of some journal, or of none yet: all of
-- it at `Ok`, and a front of it at an error.
abbrev pub PutsLines : {T : Type 0} → Result T ShowError → Option (List ℕ) → Option (List ℕ)
    → Type 0
PutsLines result old new = (reading : Reading) × PutAppends old new result (shown reading)

-- The count of faults of what fails by this error. It never falls: it has risen where that is the
-- answer, and else it stands still.
pub record FailsBy {T : Type 0} (error : ShowError) (before now : ℕ) (result : Result T ShowError)
    : Type 0 where
  pub later : before ≤ now
  pub failed : result ≡ Err error → Rose before now
  pub still : result ≢ Err error → now ≡ before

-- an error of a journal that is only read
abbrev pub show_error : JournalError → ShowError
show_error journals.DiskFault = errors.DiskFault
show_error (journals.Refused at) = errors.JournalRefused at
show_error other = errors.NoMemory
