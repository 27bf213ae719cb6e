-- Own: what a journal of format 1 is migrated to; docs/DECISIONS.md, "Formats of the journal".
use Rattle.std.specs.Prelude.{◌≡◌, ◌≢◌, ◌⊎◌, ℕ, ◌<◌, ◌≤◌, List, [], ◌∷◌, ◌++◌, length}
use Rattle.std.specs.Prelude.{Result, Ok, Err}
use Rattle.std.specs.Io.KnownBytes.{Appends}
use Rattle.std.specs.declared.option.Option.{Option}
use Rattle.outside.specs.Bytes.{AppendsFront, PutAppends}
use Rattle.outside.specs.Causes.{Rose}
use Rattle.outside.specs.declared.disk.TheConstants.{MAX_DISK}
use Rattle.order_meaning.specs.declared.names.Names.{Names}
use Rattle.gate_log.specs.Records.{blocks}
use Rattle.pair_entries.specs.declared.entry.Entry.{Entry}
use Rattle.pair_entries.specs.Birth.{AreNames}
use Rattle.kept_entries.specs.Numbers.{first_numbers}
use Rattle.kept_entries.specs.Entries.{DaysGoOn}
use Rattle.pair_journal.specs.Journal.{JournalOf, Unborn, Born, Refused}
use Rattle.pair_journal.specs.Calls.{payloads_of}
use Rattle.journal_migrate.specs.declared.migrating.MigrateError.{MigrateError}
use Rattle.journal_migrate.specs.declared.migrating.MigrateError.TheVariants as errors
use Rattle.journal_migrate.specs.Format1.{JournalOf1}

-- the image of a journal: its records, and a closed gate behind them
abbrev pub image_of : Names → List Entry → List ℕ
image_of names entries = blocks (payloads_of names entries) ++ 0 ∷ []

-- THE SAME JOURNAL in format 2: the bytes are one of format 1, and its image in format 2 stands for
-- the same
pub record IsTwin (bytes image : List ℕ) : Type 0 where
  pub names : Names
  pub entries : List Entry
  pub before : JournalOf1 bytes (Born names entries)
  pub is : image ≡ image_of names entries
  pub after : JournalOf image (Born names entries)

-- the bytes are a journal of format 1 whose image in format 2 is longer than a disk
pub record IsTooLong (bytes : List ℕ) : Type 0 where
  pub names : Names
  pub entries : List Entry
  pub before : JournalOf1 bytes (Born names entries)
  pub long : MAX_DISK < length (image_of names entries)

-- a front of the same journal in format 2 was put
abbrev pub PutsTwinFront : List ℕ → (old new : Option (List ℕ)) → Type 0
PutsTwinFront bytes old new = (image : List ℕ) × IsTwin bytes image × AppendsFront old new image

-- WHAT WAS PUT, by the answer: at `Ok` the same journal in format 2, and nothing of an unborn disk;
-- nothing exactly where the bytes are refused as format 1, at that place, and exactly where the
-- image has no room; a front of it where the output failed; nothing, or a front of it, where the
-- disk failed or for want of memory.
abbrev pub Migrates : {T : Type 0} → List ℕ → Result T MigrateError
    → (old new : Option (List ℕ)) → Type 0
Migrates bytes (Ok value) old new = (JournalOf1 bytes Unborn × Appends old new [])
    ⊎ ((image : List ℕ) × IsTwin bytes image × Appends old new image)
Migrates bytes (Err (errors.Refused at)) old new =
    JournalOf1 bytes (Refused at) × Appends old new []
Migrates bytes (Err errors.Full) old new = IsTooLong bytes × Appends old new []
Migrates bytes (Err errors.OutputFault) old new = PutsTwinFront bytes old new
Migrates bytes (Err other) old new = Appends old new [] ⊎ PutsTwinFront bytes old new

-- WHATEVER THE DISK TELLS, nothing was put, or the image of some journal in format 2: all of it at
-- `Ok`, and a front of it at an error.
abbrev pub PutsImage : {T : Type 0} → Result T MigrateError → (old new : Option (List ℕ)) → Type 0
PutsImage result old new = Appends old new []
    ⊎ ((names : Names) × (entries : List Entry) × AreNames names × DaysGoOn first_numbers entries
    × PutAppends old new result (image_of names entries))

-- The count of faults of what fails by this error. It never falls: it has risen where that is the
-- answer, and else it stands still.
pub record FailsBy {T : Type 0} (error : MigrateError) (before now : ℕ)
    (result : Result T MigrateError) : Type 0 where
  pub later : before ≤ now
  pub failed : result ≡ Err error → Rose before now
  pub still : result ≢ Err error → now ≡ before
