-- Own: why a journal is full and numbers are spent, by the journal alone; docs/DEFINITIONS.md, "One
-- life over its records".
use Rattle.std.specs.Prelude.{◌≡◌, ◌⊎◌, ℕ, ◌≤◌, List, ◌++◌, Err, IfSome}
use Rattle.std.specs.declared.option.Option.{Option}
use Rattle.outside.specs.Disk.{Only}
use Rattle.gate_log.specs.Log.{HasRoom}
use Rattle.order_meaning.specs.declared.Side.{Side}
use Rattle.order_meaning.specs.declared.names.Names.{Names}
use Rattle.pair_entries.specs.declared.TheConstants.{MAX_NUMBER}
use Rattle.pair_entries.specs.declared.entry.Entry.{Entry}
use Rattle.pair_entries.specs.Payload.{IsEntry}
use Rattle.kept_entries.specs.Days.{last_day, payload_behind}
use Rattle.event_decisions.specs.Days.{new_day}
use Rattle.pair_journal.specs.Calls.{payloads_of}
use Rattle.kept_entries.specs.Numbers.{numbers_after, first_numbers, next_out}
use Rattle.event_decisions.specs.Event.{Event}
use Rattle.event_decisions.specs.Decide.{Sessions, AreSides, numbers_of, Decides, IsDecided}
use Rattle.message_answers.specs.Answer.{Answers}
use Rattle.gateway_life.specs.declared.end.LifeEnd.{LifeEnd}
use Rattle.gateway_life.specs.declared.end.LifeEnd.TheVariants as ends
use Rattle.gateway_life.specs.State.{EngineState}
use Rattle.gateway_life.specs.Life.{IsJournal}
use Rattle.gateway_life.specs.Watched.{WereCommitted}

-- an entry that may come behind these: some event decides it on the last day, or a new day begins
abbrev pub MayCome : Names → List Entry → Entry → Type 0
MayCome names entries entry =
    IsDecided Answers names (last_day entries) entry ⊎ ((now : ℕ) × (entry ≡ new_day now))

-- A JOURNAL OF THESE ENTRIES IS FULL: an entry may come of which the record has no room behind
-- theirs.
pub record IsJournalFull (names : Names) (entries : List Entry) : Type 0 where
  pub entry : Entry
  pub comes : MayCome names entries entry
  pub bounded : IsEntry entry
  pub no_room : HasRoom (payloads_of names entries) (payload_behind entries entry) → ⊥

-- THE NUMBERS OF A SIDE ARE SPENT behind these entries: some event would take one past the last,
-- and the next number is the last, or past it.
pub record AreNumbersSpent (names : Names) (entries : List Entry) (side : Side) : Type 0 where
  pub window : ℕ
  pub sessions : Sessions
  pub sides : AreSides sessions
  pub numbers : numbers_of sessions ≡ numbers_after first_numbers entries
  pub event : Event
  pub now : ℕ
  pub decides : Decides Answers names window (last_day entries) sessions event now (Err side)
  pub last : MAX_NUMBER ≤ next_out side (numbers_after first_numbers entries)

-- the cause of an end that a journal shows; of other ends nothing is said here
abbrev pub IsCause : LifeEnd → Names → List Entry → Type 0
IsCause ends.JournalFull names entries = IsJournalFull names entries
IsCause (ends.NumbersSpent side) names entries = AreNumbersSpent names entries side
IsCause end names entries = Unit {0}

-- THE CAUSE OF AN END IN THE JOURNAL, over a disk that told these bytes before. Some entries were
-- committed behind those at entry; behind these the end has its cause, and each image that the disk
-- may leave is their journal.
abbrev pub HasJournalCause : LifeEnd → Names → Option (List ℕ) → (before after : List ℕ → Type 0)
    → Type 0
HasJournalCause end names told before after = IfSome told (λ bytes. Only bytes before →
    (entries : List Entry) → IsJournal names entries bytes → (more : List Entry)
    × IsCause end names (entries ++ more)
    × ((image : List ℕ) → after image → (found : List Entry) × IsJournal names found image
    × WereCommitted end (entries ++ more) found))

-- the same of an engine that has ended a life
abbrev pub IsCauseIn : LifeEnd → EngineState → Type 0
IsCauseIn end engine = IsCause end engine.core.config.names engine.journal.entries
