-- Inside: what a walk over the records of a journal of format 1 reads and puts.
use Rattle.std.specs.Prelude.{◌≡◌, ℕ, ◌+◌, Bool, true, false, List, [], ◌∷◌, ◌++◌, length}
use Rattle.std.specs.Prelude.{Result, Ok, Err}
use Rattle.std.specs.Io.KnownBytes.{Appends}
use Rattle.std.specs.declared.option.Option.{Option}
use Rattle.outside.specs.Bytes.{AppendsFront}
use Rattle.order_meaning.specs.declared.names.Names.{Names}
use Rattle.gate_log.specs.declared.error.LogError.{LogError}
use Rattle.gate_log.specs.declared.error.LogError.TheVariants as log_errors
use Rattle.gate_log.specs.Records.{blocks, Stands}
use Rattle.gate_log.specs.Log.{HasNoPayload}
use Rattle.pair_entries.specs.declared.entry.Entry.{Entry}
use Rattle.pair_entries.specs.Payload.{Next, IsEntry, entry_bytes, payload_on}
use Rattle.pair_entries.specs.Birth.{birth_bytes, AreNames}
use Rattle.kept_entries.specs.Numbers.{GoesOn, first_numbers, numbers_before, numbers_after}
use Rattle.kept_entries.specs.Days.{day_after, day_number}
use Rattle.kept_entries.specs.Entries.{DaysGoOn}
use Rattle.pair_journal.specs.Journal.{Born, Refused}
use Rattle.pair_journal.specs.Calls.{payloads_of}
use Rattle.journal_migrate.specs.declared.migrating.MigrateError.{MigrateError}
use Rattle.journal_migrate.specs.declared.migrating.MigrateError.TheVariants as errors
use Rattle.journal_migrate.specs.Format1.{JournalOf1, birth1_bytes, payloads1_of}
use Rattle.journal_migrate.specs.Migrating.{image_of}

-- an error of the log under a journal, which is only read
abbrev pub migrate_error : LogError → MigrateError
migrate_error log_errors.DiskFault = errors.DiskFault
migrate_error (log_errors.Foreign at) = errors.Refused at
migrate_error other = errors.NoMemory

-- ---- one record

-- this payload is that of an entry whose numbers go on from these
pub record Follows1 (numbers : Next) (payload : List ℕ) (entry : Entry) : Type 0 where
  pub written : payload ≡ entry_bytes entry
  pub sound : IsEntry entry
  pub goes_on : GoesOn (numbers_before numbers entry) entry

-- this payload names a journal of format 1, and this is the record of the same names in format 2
pub record IsBirth (payload made : List ℕ) : Type 0 where
  pub names : Names
  pub named : AreNames names
  pub written : payload ≡ birth1_bytes names
  pub record_is : made ≡ blocks (birth_bytes names ∷ [])

-- it names none
abbrev pub IsNoBirth : List ℕ → Type 0
IsNoBirth payload = (names : Names) → AreNames names → payload ≡ birth1_bytes names → ⊥

-- the same, by an answer
abbrev pub TellsBirth : Bool → List ℕ → List ℕ → Type 0
TellsBirth true payload made = IsBirth payload made
TellsBirth false payload made = IsNoBirth payload

-- this payload is that of an entry behind this day and these numbers, which ends the one and gives
-- the others, and this is its record in format 2
pub record IsNext (day : ℕ) (numbers : Next) (payload : List ℕ)
    (day_now : ℕ) (numbers_now : Next) (made : List ℕ) : Type 0 where
  pub entry : Entry
  pub follows : Follows1 numbers payload entry
  pub day_is : day_now ≡ day_after day entry
  pub numbers_are : numbers_now ≡ entry.next
  pub record_is : made ≡ blocks (payload_on day_now entry ∷ [])

-- it is that of none
abbrev pub IsNoNext : Next → List ℕ → Type 0
IsNoNext numbers payload = (entry : Entry) → Follows1 numbers payload entry → ⊥

-- what a read of a record answers, of which this is said where it is one, and this where it is none
abbrev pub ReadsRecord : {T : Type 0} → (One None : Type 0) → (place : ℕ)
    → Result T MigrateError → Type 0
ReadsRecord One None place (Ok value) = One
ReadsRecord One None place (Err (errors.Refused at)) = (at ≡ place) × None
ReadsRecord One None place (Err errors.Full) = ⊥
ReadsRecord One None place (Err errors.OutputFault) = ⊥
ReadsRecord One None place (Err other) = Unit {0}

-- a read at a place gave up: no payload stands there, or the disk failed
abbrev pub Unread : Option (List ℕ) → ℕ → MigrateError → Type 0
Unread told place (errors.Refused at) = HasNoPayload told place
Unread told place errors.DiskFault = Unit {0}
Unread told place other = ⊥

-- ---- all of them

-- The bytes begin with the records of a journal, as many as this, and the next stands at this
-- place, behind this day and these numbers.
pub record IsReached (bytes : List ℕ) (index place day : ℕ) (numbers : Next) : Type 0 where
  pub names : Names
  pub entries : List Entry
  pub after : List (List ℕ)
  pub stands : Stands bytes (payloads1_of names entries ++ after)
  pub named : AreNames names
  pub sound : DaysGoOn first_numbers entries
  pub count : index ≡ length entries + 1
  pub place_is : place ≡ length (blocks (payloads1_of names entries))
  pub on_day : day ≡ day_number entries
  pub reached : numbers ≡ numbers_after first_numbers entries

-- the same, and these records were put in format 2
abbrev pub IsPut : List ℕ → (index place day : ℕ) → Next → (old new : Option (List ℕ)) → Type 0
IsPut bytes index place day numbers old new = (at : IsReached bytes index place day numbers)
    × Appends old new (blocks (payloads_of at.names at.entries))

-- where the bytes are a journal of format 1, a front of its image in format 2 was put
abbrev pub IsBegun : List ℕ → (old new : Option (List ℕ)) → Type 0
IsBegun bytes old new = (names : Names) (entries : List Entry)
    → JournalOf1 bytes (Born names entries) → AppendsFront old new (image_of names entries)

-- what a walk over all records answers, and what it put
abbrev pub Walks : {T : Type 0} → List ℕ → Result T MigrateError
    → (old new : Option (List ℕ)) → Type 0
Walks bytes (Ok value) old new = (names : Names) × (entries : List Entry)
    × JournalOf1 bytes (Born names entries) × Appends old new (image_of names entries)
Walks bytes (Err (errors.Refused at)) old new = JournalOf1 bytes (Refused at)
Walks bytes (Err errors.Full) old new = ⊥
Walks bytes (Err other) old new = IsBegun bytes old new
