-- Own: one life over the records of its wires and of its clock; docs/DEFINITIONS.md, "A life".
use Rattle.std.specs.Prelude.{◌≡◌, ◌≢◌, ◌⊎◌, ℕ, zero, suc, ◌≤◌, false, List, [], ◌∷◌, ◌++◌, map}
use Rattle.std.specs.Prelude.{true, length, min, Result, Ok, Err, ⊤}
use mathlib.Core.Logic.{inl, inr}
use Rattle.order_meaning.specs.declared.Side.TheVariants.{Client, Venue}
use Rattle.order_meaning.specs.declared.names.Names.{Names}
use Rattle.pair_entries.specs.declared.TheConstants.{MAX_AT}
use Rattle.pair_entries.specs.declared.entry.Entry.{Entry}
use Rattle.kept_entries.specs.Days.{last_day, past_of, day_at}
use Rattle.pair_journal.specs.Journal.{JournalOf, Unborn, Born, Refused}
use Rattle.outside.specs.Causes.{next_count}
use Rattle.std.specs.declared.option.Option.{Option}
use Rattle.event_decisions.specs.Event.{Event, End}
use Rattle.event_decisions.specs.Decide.{Sessions}
use Rattle.message_answers.specs.Answer.{Answers}
use Rattle.gateway_config.specs.declared.config.Config.{Config}
use Rattle.gateway_core.specs.State.{loaded, sessions_in}
use Rattle.wires.specs.Wire.{WireCall, is_within}
use Rattle.life_laws.specs.Sends.{hang_up_if}
use Rattle.life_laws.specs.Happens.{World, Added, nothing}
use Rattle.life_laws.specs.Turn.{Reads, both}
use Rattle.life_laws.specs.Days.{DayLeft, DayEnded, written, all_added, due_in, NoneDue, EndsDay}
use Rattle.life_laws.specs.Days.{OverDays, LivesDays}
use Rattle.life_laws.specs.Ends.{UpTo, LifeUpTo}
use Rattle.gateway_life.specs.declared.end.LifeEnd.{LifeEnd}
use Rattle.gateway_life.specs.declared.end.LifeEnd.TheVariants as ends
use Rattle.gateway_life.specs.Fails.{IsWhy, FailsBy, IsWhyOfDay}

-- a life begins with both sessions down, with the numbers of its journal, and no connection; the
-- entries are those of the last day
abbrev pub begun : Config → List Entry → World
begun config entries = record {
  entries = entries;
  sessions = sessions_in (loaded config entries);
  client_up = false;
  venue_up = false;
}

-- a moment that no timestamp has counts as the last that has one
abbrev pub moment_of : ℕ → ℕ
moment_of given = min given MAX_AT

-- what was done on the wires, and the moments that the clock gave
pub record Done : Type 0 where
  pub client : List WireCall
  pub venue : List WireCall
  pub moments : List ℕ

-- both sessions as a day begins
abbrev pub rested : Config → Sessions
rested config = sessions_in (loaded config [])

-- the entries of a journal from which a life went on: days that ended in it, and the one that was
-- left
abbrev pub went_on : (before : List Entry) → List DayEnded → (present : List Entry) → List Entry
went_on before days present = past_of before ++ written days present

-- A LIFE THAT CAME TO ITS END, after so many rounds: what was done is what its events call for, day
-- by day, and these days ended in it and this one was left.
pub record LivesToEnd (config : Config) (before : List Entry) (rounds : ℕ) (did : Done)
    (days : List DayEnded) (left : DayLeft) : Type 0 where
  pub given : List ℕ
  pub last : ℕ
  pub moments : did.moments ≡ given ++ last ∷ []
  pub each : length given ≡ rounds
  -- whatever was read on connections before
  pub lives : (reads : Reads) → LivesDays Answers config.names config.window config.reset
      (rested config) (day_at (past_of before)) reads (begun config (last_day before))
      (map moment_of given) (moment_of last) days left
  pub client : did.client ≡ (all_added days left.added).client
  pub venue : did.venue ≡ (all_added days left.added).venue

-- hung up, where the connection still stands
abbrev pub hung_up : List WireCall → List WireCall
hung_up calls = calls ++ hang_up_if (is_within calls)

-- where an event is of the end of both sides, and of no round
abbrev pub IfAtEnd : {Round Ends : Type 0} → Round ⊎ Ends → Type 0 → Type 0
IfAtEnd (inl round) holds = Unit {0}
IfAtEnd (inr ends) holds = holds

-- AN EVENT THAT ENDED A LIFE on a day, behind the entries of the days before: all that the day did
-- before it, the event, why that ended the life, and what stands of it.
pub record EventFails (end : LifeEnd) (config : Config) (past : List Entry) (last : ℕ)
    (left : DayLeft) (all_rounds : Type 0) (began : Option ℕ) (reads : Reads) (before : World)
    (moments : List ℕ) : Type 0 where
  pub whole : List ℕ
  pub split : moments ≡ whole ++ last ∷ []
  pub added : Added
  pub mid : World
  pub event : Event
  pub up_to : LifeUpTo Answers config.names config.window reads before whole last added mid event
  pub none_due : NoneDue Answers config.names config.window config.reset began reads before whole
      up_to.first up_to.read up_to.between up_to.rounds
  -- where a new day was due, the event is of the end of both sides
  pub due : due_in config.reset began up_to.between.entries last ≡ true
      → UpTo Answers config.names config.window up_to.between (End Client ∷ End Venue ∷ []) last
      up_to.rest mid event
  -- an event of the end of both sides comes where a new day was due, or behind all rounds
  pub ends : IfAtEnd up_to.last
      ((due_in config.reset began up_to.between.entries last ≡ true) ⊎ all_rounds)
  pub why : IsWhy end config past mid event last
  pub part : Added
  pub fails : FailsBy end config mid event last part left.entries
  pub all : left.added ≡ both added part

-- A NEW DAY THAT ENDED A LIFE: the day before it ended whole, and its entry was not committed.
pub record DayFails (end : LifeEnd) (config : Config) (past : List Entry) (last : ℕ)
    (left : DayLeft) (began : Option ℕ) (reads : Reads) (before : World) (moments : List ℕ)
    : Type 0 where
  pub whole : List ℕ
  pub split : moments ≡ whole ++ last ∷ []
  pub ends : EndsDay Answers config.names config.window config.reset began reads before whole
      (record { left = left; at = last })
  pub why : IsWhyOfDay end config.names (past ++ left.entries) last

-- The disk failed, but the entry of the new day stands: nothing was done on that day.
pub record DayStands (end : LifeEnd) (config : Config) (last : ℕ) (left : DayLeft)
    (before : World) (moments : List ℕ) : Type 0 where
  pub failed : end ≡ ends.DiskFault
  pub fresh : before ≡ begun config []
  pub only : moments ≡ last ∷ []
  pub entries : left.entries ≡ []
  pub added : left.added ≡ nothing

-- the day on which a life failed
pub data LastFails (end : LifeEnd) (config : Config) (past : List Entry) (last : ℕ)
    (left : DayLeft) (all_rounds : Type 0) (began : Option ℕ) (reads : Reads) (before : World)
    (moments : List ℕ) : Type 0 where
  AtEvent : EventFails end config past last left all_rounds began reads before moments
      → LastFails end config past last left all_rounds began reads before moments
  AtDay : DayFails end config past last left began reads before moments
      → LastFails end config past last left all_rounds began reads before moments
  BehindDay : DayStands end config last left before moments
      → LastFails end config past last left all_rounds began reads before moments

-- A LIFE THAT FAILED: the days that ended in it, and the one on which it did; then both wires are
-- hung up.
pub record LifeFails (end : LifeEnd) (config : Config) (before : List Entry) (rounds : ℕ)
    (did : Done) (days : List DayEnded) (left : DayLeft) : Type 0 where
  pub given : List ℕ
  pub last : ℕ
  pub moments : did.moments ≡ given ++ last ∷ []
  pub most : length given ≤ rounds
  -- whatever was read on connections before
  pub fails : (reads : Reads) → OverDays Answers config.names config.window config.reset
      (LastFails end config (went_on before days []) (moment_of last) left
      (length given ≡ rounds)) (rested config)
      (day_at (past_of before)) reads (begun config (last_day before))
      (map moment_of (given ++ last ∷ [])) days
  pub client : did.client ≡ hung_up (all_added days left.added).client
  pub venue : did.venue ≡ hung_up (all_added days left.added).venue

-- a life that did not begin: nothing was done
pub record DoesNotBegin (did : Done) : Type 0 where
  pub client : did.client ≡ []
  pub venue : did.venue ≡ []
  pub moments : did.moments ≡ []

-- an image that is the journal of these names, or is unborn where there are no entries
abbrev pub IsJournal : Names → List Entry → List ℕ → Type 0
IsJournal names entries image =
    JournalOf image (Born names entries) ⊎ (JournalOf image Unborn × (entries ≡ []))

-- only a disk fault and want of memory come before a life begins over such a disk
abbrev pub MayNotBegin : LifeEnd → Type 0
MayNotBegin ends.DiskFault = Unit {0}
MayNotBegin ends.NoMemory = Unit {0}
MayNotBegin end = ⊥

-- HOW A LIFE GOES ON FROM A JOURNAL WITH ENTRIES BEFORE, by how it ended, so that these days ended
-- in it and this one was left: to its end, up to where it failed, or not at all.
pub data Follows (end : LifeEnd) (config : Config) (before : List Entry) (rounds : ℕ) (did : Done)
    (days : List DayEnded) (left : DayLeft) : Type 0 where
  ToItsEnd : end ≡ ends.Done → LivesToEnd config before rounds did days left
      → Follows end config before rounds did days left
  ToAFailure : LifeFails end config before rounds did days left
      → Follows end config before rounds did days left
  NotBegun : MayNotBegin end → DoesNotBegin did → days ≡ [] → left.entries ≡ last_day before
      → left.added ≡ nothing → Follows end config before rounds did days left

-- WHAT IS ANSWERED OF A DISK by its bytes: refused where they are no journal, or one of other
-- names; else a life began over a journal of these names, or over an unborn disk. A disk fault and
-- want of memory say nothing of them.
abbrev pub IsAnswered : LifeEnd → Names → List ℕ → Type 0
IsAnswered (ends.JournalRefused at) names bytes = JournalOf bytes (Refused at)
IsAnswered (ends.NamesDiffer kept given) names bytes = (given ≡ names) × (kept ≢ names)
    × (others : List Entry) × JournalOf bytes (Born kept others)
IsAnswered ends.DiskFault names bytes = Unit {0}
IsAnswered ends.NoMemory names bytes = Unit {0}
IsAnswered end names bytes = (entries : List Entry) × IsJournal names entries bytes

-- a disk that was refused
abbrev pub IfRefused : LifeEnd → Type 0 → Type 0
IfRefused (ends.JournalRefused at) holds = holds
IfRefused (ends.NamesDiffer kept given) holds = holds
IfRefused end holds = Unit {0}

-- bytes that are no journal of these names
abbrev pub IsForeign : Names → List ℕ → Type 0
IsForeign names bytes = (entries : List Entry) → IsJournal names entries bytes → ⊥

-- the answer of a whole life as that of its parts
abbrev pub ended : LifeEnd → Result ⊤ LifeEnd
ended ends.Done = Ok tt
ended end = Err end

-- a count after so many more
abbrev pub counted_on : ℕ → ℕ → ℕ
counted_on zero count = count
counted_on (suc n) count = counted_on n (next_count count)
