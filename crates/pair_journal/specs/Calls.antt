-- Own: what the calls of a journal answer, and what they do to the images of a disk.
use Rattle.std.specs.Prelude.{◌≡◌, ◌≢◌, ◌⊎◌, ℕ, ◌+◌, ◌-◌, ◌≤◌, List, [], ◌∷◌, ◌++◌, length}
use Rattle.std.specs.Prelude.{true}
use Rattle.std.specs.Prelude.{Some, None, IfSome, Result, Ok, Err}
use Rattle.std.specs.declared.option.Option.{Option}
use Rattle.outside.specs.declared.disk.TheConstants.{MAX_DISK}
use Rattle.outside.specs.Causes.{Rose}
use Rattle.outside.specs.Disk.{Only}
use Rattle.order_meaning.specs.declared.names.Names.{Names}
use Rattle.gate_log.specs.declared.error.LogError.{LogError}
use Rattle.gate_log.specs.declared.error.LogError.TheVariants as log_errors
use Rattle.gate_log.specs.Records.{blocks}
use Rattle.gate_log.specs.Log.{HasRoom}
use Rattle.pair_journal.specs.declared.error.JournalError.{JournalError}
use Rattle.pair_journal.specs.declared.error.JournalError.TheVariants as errors
use Rattle.pair_entries.specs.declared.entry.Entry.{Entry}
use Rattle.kept_entries.specs.Days.{dated, payload_behind}
use Rattle.pair_entries.specs.Birth.{birth_bytes}
use Rattle.pair_journal.specs.Journal.{Unborn, Born, Refused, JournalOf}
use Rattle.pair_journal.specs.State.{JournalState}

-- an error of the log under a journal
abbrev pub journal_error : LogError → JournalError
journal_error log_errors.DiskFault = errors.DiskFault
journal_error (log_errors.Foreign at) = errors.Refused at
journal_error log_errors.Full = errors.Full
journal_error log_errors.NoMemory = errors.NoMemory

-- a disk fault comes only where the count of faults rose, and else the count stands still
abbrev pub HasDiskCause : {T : Type 0} → ℕ → ℕ → Result T JournalError → Type 0
HasDiskCause before now (Err errors.DiskFault) = (before ≤ now) × Rose before now
HasDiskCause before now answer = now ≡ before

-- the disk may fail or memory be refused, and no more
abbrev pub ReadsOnly : {T : Type 0} → Result T JournalError → Type 0
ReadsOnly (Err (errors.Refused at)) = ⊥
ReadsOnly (Err (errors.NamesDiffer kept given)) = ⊥
ReadsOnly (Err errors.Full) = ⊥
ReadsOnly answer = Unit {0}

-- besides these it may refuse what it reads
abbrev pub OnlyReading : {T : Type 0} → Result T JournalError → Type 0
OnlyReading (Err (errors.NamesDiffer kept given)) = ⊥
OnlyReading (Err errors.Full) = ⊥
OnlyReading answer = Unit {0}

-- the same, but a disk that tells its bytes is not refused
abbrev pub RefusedUntold : {T : Type 0} → Option (List ℕ) → Result T JournalError → Type 0
RefusedUntold told (Err (errors.Refused at)) = told ≡ None
RefusedUntold told answer = OnlyReading answer

-- What a look at these bytes answers: a journal exactly where they stand for it, none exactly where
-- they are unborn, a refusal exactly where they are refused at that place.
abbrev pub Looks : List ℕ → Result (Option JournalState) JournalError → Type 0
Looks bytes (Ok None) = JournalOf bytes Unborn
Looks bytes (Ok (Some journal)) = JournalOf bytes (Born journal.names journal.entries)
Looks bytes (Err (errors.Refused at)) = JournalOf bytes (Refused at)
Looks bytes (Err (errors.NamesDiffer kept given)) = ⊥
Looks bytes (Err errors.Full) = ⊥
Looks bytes (Err other) = Unit {0}

-- What a load of these bytes answers, and what the disk tells then. An unborn disk becomes a
-- journal of these names without entries.
abbrev pub Loads : Names → List ℕ → Result JournalState JournalError → Option (List ℕ) → Type 0
Loads names bytes (Ok journal) now = (journal.names ≡ names)
    × (JournalOf bytes (Born names journal.entries)
    ⊎ (JournalOf bytes Unborn × (journal.entries ≡ [])))
    × IfSome now (λ after. JournalOf after (Born names journal.entries))
Loads names bytes (Err (errors.Refused at)) now =
    JournalOf bytes (Refused at) × IfSome now (λ after. JournalOf after (Refused at))
Loads names bytes (Err (errors.NamesDiffer kept given)) now = (given ≡ names) × (kept ≢ names)
    × (entries : List Entry) × JournalOf bytes (Born kept entries)
    × IfSome now (λ after. JournalOf after (Born kept entries))
Loads names bytes (Err errors.Full) now = ⊥
Loads names bytes (Err other) now = Unit {0}

-- where the one image of a disk was unborn or a journal, each image is that, or the disk was unborn
-- and the image is a journal of these names without entries
abbrev pub BornOrNot : Option (List ℕ) → (List ℕ → Type 0) → (List ℕ → Type 0) → Names → Type 0
BornOrNot told before after names =
    IfSome told (λ bytes. Only bytes before → (image : List ℕ) → after image →
    ((JournalOf bytes Unborn → JournalOf image Unborn ⊎ JournalOf image (Born names []))
    × ((kept : Names) (entries : List Entry)
    → JournalOf bytes (Born kept entries) → JournalOf image (Born kept entries))))

-- the payloads of a journal
abbrev pub payloads_of : Names → List Entry → List (List ℕ)
payloads_of names entries = birth_bytes names ∷ dated 0 entries

-- What a commit answers: the entry, which is now the last; `Full` exactly where its record has no
-- room, and then nothing changed; or a disk fault, after which the journal is broken.
abbrev pub Commits : Entry → JournalState → JournalState → Result Entry JournalError → Type 0
Commits entry old new (Ok answer) =
    (answer ≡ entry)
    × HasRoom (payloads_of old.names old.entries) (payload_behind old.entries entry)
    × (new ≡ record old { entries = old.entries ++ entry ∷ []; spare = old.spare - 1 })
Commits entry old new (Err errors.DiskFault) =
    HasRoom (payloads_of old.names old.entries) (payload_behind old.entries entry)
    × (new ≡ record old { broken = true })
Commits entry old new (Err errors.Full) =
    (MAX_DISK ≤ length (blocks (payloads_of old.names old.entries))
    + 5 + length (payload_behind old.entries entry)) × (new ≡ old)
Commits entry old new (Err other) = ⊥

-- where the one image of a disk stands for a journal, each image then stands for it, or for it with
-- one entry more
abbrev pub KeepsJournal : Option (List ℕ)
    → (List ℕ → Type 0) → (List ℕ → Type 0) → JournalState → Entry → Type 0
KeepsJournal told before after journal entry =
    IfSome told (λ bytes. Only bytes before → (image : List ℕ) → after image →
    JournalOf image (Born journal.names journal.entries)
    ⊎ JournalOf image (Born journal.names (journal.entries ++ entry ∷ [])))
