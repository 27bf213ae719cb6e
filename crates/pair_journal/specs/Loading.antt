-- Inside: what reading a log's payloads answers.
use Rattle.std.specs.Prelude.{◌≡◌, ◌≢◌, ℕ, ◌+◌, List, ◌∷◌, ◌++◌, length, drop, IfSome, Result}
use Rattle.std.specs.Prelude.{Ok, Err}
use Rattle.std.specs.declared.option.Option.{Option}
use Rattle.order_meaning.specs.declared.names.Names.{Names}
use Rattle.gate_log.specs.Records.{blocks, Stands, AllFit}
use Rattle.gate_log.specs.Log.{HasNoPayload}
use Rattle.gate_log.specs.State.{LogState}
use Rattle.pair_journal.specs.declared.error.JournalError.{JournalError}
use Rattle.pair_journal.specs.declared.error.JournalError.TheVariants as errors
use Rattle.pair_entries.specs.declared.entry.Entry.{Entry}
use Rattle.pair_entries.specs.Payload.{Next, IsEntry, payload_on}
use Rattle.kept_entries.specs.Numbers.{GoesOn, numbers_before}
use Rattle.kept_entries.specs.Days.{day_after}
use Rattle.pair_entries.specs.Birth.{birth_bytes, AreNames}
use Rattle.pair_journal.specs.Journal.{JournalOf, Born}
use Rattle.pair_journal.specs.Calls.{Looks, payloads_of}
use Rattle.kept_entries.specs.Spots.{end_of}
use Rattle.pair_journal.specs.State.{JournalState}

-- payloads of which the first names these
pub record IsBorn (payloads : List (List ℕ)) (names : Names) : Type 0 where
  pub named : AreNames names
  pub after : List (List ℕ)
  pub split : payloads ≡ birth_bytes names ∷ after

-- this payload is that of an entry on the day behind this one or on this one, whose numbers go on
pub record Follows (day : ℕ) (numbers : Next) (payload : List ℕ) (entry : Entry) : Type 0 where
  pub written : payload ≡ payload_on (day_after day entry) entry
  pub sound : IsEntry entry
  pub goes_on : GoesOn (numbers_before numbers entry) entry

-- this payload is that of an entry, on some day
abbrev pub IsPayload : List ℕ → Entry → Type 0
IsPayload payload entry = (day : ℕ) × (payload ≡ payload_on day entry)

-- a read at a place gave up: no payload stands there, or it could not be read
abbrev pub Unread : Option (List ℕ) → ℕ → JournalError → Type 0
Unread told place (errors.Refused at) = HasNoPayload told place
Unread told place (errors.NamesDiffer kept given) = ⊥
Unread told place errors.Full = ⊥
Unread told place other = Unit {0}

-- the bytes of a disk, where it tells them, are refused, or could not be read
abbrev pub IsMisread : Option (List ℕ) → JournalError → Type 0
IsMisread told e = IfSome told (λ bytes. Looks bytes (Err e))

-- the list that a disk tells begins with a record of these names
abbrev pub TellsNames : Option (List ℕ) → Names → Type 0
TellsNames told names = IfSome told (λ bytes. (payloads : List (List ℕ))
    → Stands bytes payloads → IsBorn payloads names)

-- the bytes of a disk, where it tells them, are this journal
abbrev pub Tells : Option (List ℕ) → Names → List Entry → Type 0
Tells told names entries = IfSome told (λ bytes. JournalOf bytes (Born names entries))

-- a log has the number and the end of the records of a journal
pub record HasExtent (log : LogState) (names : Names) (entries : List Entry) : Type 0 where
  pub number : log.count ≡ length entries + 1
  pub end : log.end ≡ length (blocks (payloads_of names entries))

-- the journal that was read, where it has these names
abbrev pub HasNames : Names → JournalState → Result JournalState JournalError → Type 0
HasNames names journal (Ok answer) = (answer ≡ journal) × (journal.names ≡ names)
HasNames names journal (Err (errors.NamesDiffer kept given)) =
    (kept ≡ journal.names) × (given ≡ names) × (kept ≢ names)
HasNames names journal (Err other) = ⊥

-- bytes begin with the records of a journal of these names and entries
pub record IsFront (bytes : List ℕ) (names : Names) (entries : List Entry) : Type 0 where
  pub split : bytes ≡ blocks (payloads_of names entries) ++ drop (end_of entries) bytes
  pub fit : AllFit (payloads_of names entries)
