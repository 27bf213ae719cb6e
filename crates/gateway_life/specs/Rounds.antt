-- Inside: rounds and the end of a life, by what they added to the records of the wires.
use Rattle.std.specs.Prelude.{◌≡◌, ◌≢◌, ◌⊎◌, ℕ, true, false, List, [], ◌∷◌, map, is_some, IfSome}
use Rattle.std.specs.Prelude.{Result}
use Rattle.std.specs.Prelude.{Ok}
use Rattle.std.specs.Prelude.{Err, ◌≤◌, ◌++◌, length}
use Rattle.std.specs.Option.{ForSome}
use Rattle.std.specs.declared.option.Option.{Option}
use Rattle.order_meaning.specs.declared.Side.TheVariants.{Client, Venue}
use Rattle.order_meaning.specs.declared.names.Names.{Names}
use Rattle.pair_entries.specs.declared.entry.Entry.{Entry}
use Rattle.pair_journal.specs.Calls.{BornOrNot}
use Rattle.kept_entries.specs.Entries.{DaysGoOn}
use Rattle.pair_journal.specs.Journal.{JournalOf, Born, Refused}
use Rattle.kept_entries.specs.Numbers.{first_numbers}
use Rattle.kept_entries.specs.Days.{last_day, past_of, day_at}
use Rattle.event_decisions.specs.Days.{is_due, new_day}
use Rattle.event_decisions.specs.Event.{Event, End}
use Rattle.message_answers.specs.Answer.{Answers}
use Rattle.gateway_config.specs.declared.config.Config.{Config}
use Rattle.wires.specs.Told.{GrowsBy}
use Rattle.wires.specs.Wire.{WireCall}
use Rattle.life_laws.specs.Happens.{World, Added}
use Rattle.life_laws.specs.Turn.{Reads, Round, Rounds, AllHappen}
use Rattle.life_laws.specs.Days.{DayLeft, DayEnded, all_added, hung, began_after, NoneDue, OverDays}
use Rattle.life_laws.specs.Days.{LastDay}
use Rattle.life_laws.specs.Ends.{RoundUpTo}
use Rattle.gateway_life.specs.declared.end.LifeEnd.{LifeEnd}
use Rattle.gateway_life.specs.declared.end.LifeEnd.TheVariants as ends
use Rattle.gateway_life.specs.Life.{IsJournal, begun, rested, went_on, moment_of, LastFails}
use Rattle.gateway_life.specs.State.{EngineState, LifeState}
use Rattle.gateway_life.specs.Fails.{IsWhyOfDay}
use Rattle.gateway_life.specs.Ready.{Ready, world_of, LeavesOf, IfTold, Behind}
use Rattle.gateway_life.specs.Stepped.{Records, Grew, IsOfEvent, Broken, Failed}
use Rattle.gateway_life.specs.Turned.{StandsWhole, IsDrained}

-- what holds of a life between its rounds
pub record IsLive (life : LifeState) (disk : Option (List ℕ))
    (client_told venue_told : Option (List WireCall)) : Type 0 where
  pub ready : Ready life.engine disk client_told venue_told
  pub client : IsDrained Client life.client
  pub venue : IsDrained Venue life.venue

-- the framers stand for what was read on the connections that stand
pub record StoodFor (life : LifeState) (reads : Reads) : Type 0 where
  pub client : life.engine.client_up ≡ true → StandsWhole life.client reads.client
  pub venue : life.engine.venue_up ≡ true → StandsWhole life.venue reads.venue

-- both wires tell their records
pub record AreTold (r : Records) : Type 0 where
  pub client : is_some r.client ≡ true
  pub venue : is_some r.venue ≡ true

-- A ROUND of a day, whole: one step of its events, for whatever was read before.
pub record RoundDone (config : Config) (old new : LifeState) (now : ℕ) (r0 r1 : Records)
    : Type 0 where
  pub past : past_of new.engine.journal.entries ≡ past_of old.engine.journal.entries
  pub added : Added
  pub grew : Grew r0 r1 added
  pub round : AreTold r1 → (reads : Reads) → StoodFor old reads
      → (reads' : Reads)
      × Round Answers config.names config.window reads (world_of old.engine) now added reads'
      (world_of new.engine)
      × StoodFor new reads'

-- A round of a day in which an event ended the life, behind what led up to it.
pub record RoundBroken (end : LifeEnd) (config : Config) (old : LifeState) (now : ℕ)
    (r0 r1 : Records) (entries : List Entry) : Type 0 where
  pub added : Added
  pub mid : World
  pub event : Event
  pub between : Records
  pub grew : Grew r0 between added
  pub up_to : AreTold r1 → (reads : Reads) → StoodFor old reads
      → RoundUpTo Answers config.names config.window reads (world_of old.engine) now added mid event
  pub broken : Broken end config (past_of old.engine.journal.entries) mid event now between r1
      entries

-- ---- the turn of a day

-- the end of both sides
abbrev pub ends_of : List Event
ends_of = End Client ∷ End Venue ∷ []

-- A NEW DAY BEGAN: it was due, both sides ended, and its entry was committed behind those of the
-- day before; the gateway is as at the beginning of a life over no entries.
pub record DayTurned (config : Config) (old new : EngineState) (now : ℕ) (r0 r1 : Records) : Type 0
  where
    pub due : is_due config.reset (day_at old.journal.entries) now ≡ true
    pub added : Added
    pub mid : World
    pub ends : AllHappen Answers config.names config.window (world_of old) ends_of now added mid
    pub grew : Grew r0 r1 (hung added mid)
    pub entries : new.journal.entries
        ≡ past_of old.journal.entries ++ mid.entries ++ new_day now ∷ []
    pub fresh : world_of new ≡ begun config []

-- it was not due, and nothing was done
pub record DayStays (config : Config) (old new : EngineState) (now : ℕ) (r0 r1 : Records) : Type 0
  where
    pub due : is_due config.reset (day_at old.journal.entries) now ≡ false
    pub engine : new ≡ old
    pub records : r1 ≡ r0

abbrev pub DayDone : Config → (old new : EngineState) → ℕ → (r0 r1 : Records) → Type 0
DayDone config old new now r0 r1 =
    DayTurned config old new now r0 r1 ⊎ DayStays config old new now r0 r1

-- what stands where the entry of a new day was not committed behind these: only a disk fault may
-- leave it
abbrev pub MayTurn : LifeEnd → (before : List Entry) → (now : ℕ) → List Entry → Type 0
MayTurn end before now entries = (entries ≡ before)
    ⊎ ((end ≡ ends.DiskFault) × (entries ≡ before ++ new_day now ∷ []))

-- A DAY THAT WAS DUE COULD NOT BE TURNED, so that these entries are left: an event of the end of a
-- side ended the life, or the entry of the new day was not committed; that stands only where the
-- disk failed.
pub data DayBroken (end : LifeEnd) (config : Config) (old : EngineState) (now : ℕ)
    (r0 r1 : Records) (entries : List Entry) : Type 0 where
  AtEnd : is_due config.reset (day_at old.journal.entries) now ≡ true
      → Behind (past_of old.journal.entries)
      (Failed end config (past_of old.journal.entries) (world_of old) ends_of now r0 r1) entries
      → DayBroken end config old now r0 r1 entries
  AtEntry : is_due config.reset (day_at old.journal.entries) now ≡ true
      → (added : Added) → (mid : World)
      → AllHappen Answers config.names config.window (world_of old) ends_of now added mid
      → Grew r0 r1 (hung added mid)
      → IsWhyOfDay end config.names (past_of old.journal.entries ++ mid.entries) now
      → MayTurn end (past_of old.journal.entries ++ mid.entries) now entries
      → DayBroken end config old now r0 r1 entries

-- ---- rounds over days

-- the state of a life at the beginning of a round, where this is its engine
abbrev pub on_engine : LifeState → EngineState → LifeState
on_engine life engine = record life { engine = engine }

-- A ROUND: where a new day is due, it begins; and then a round of the day.
pub record RoundOver (config : Config) (old new : LifeState) (now : ℕ) (r0 r1 : Records)
    : Type 0 where
  pub mid : EngineState
  pub between : Records
  pub sound : DaysGoOn first_numbers mid.journal.entries
  pub day : DayDone config old.engine mid now r0 between
  pub done : RoundDone config (on_engine old mid) new now between r1

-- a day as far as it has come: rounds at which no new one was due
pub record DaySoFar (config : Config) (added : Added) (reads' : Reads) (after : World)
    (began : Option ℕ) (reads : Reads) (before : World) (moments : List ℕ) : Type 0 where
  pub rounds : Rounds Answers config.names config.window reads before moments added reads' after
  pub none_due : NoneDue Answers config.names config.window config.reset began reads before moments
      added reads' after rounds

-- days of a life, from a state of it on
abbrev pub DaysFrom : (Option ℕ → Reads → World → List ℕ → Type 0) → Config → LifeState → Reads
    → (moments : List ℕ) → List DayEnded → Type 0
DaysFrom Last config old reads moments days =
    OverDays Answers config.names config.window config.reset Last (rested config)
    (day_at (past_of old.engine.journal.entries)) reads (world_of old.engine) moments days

-- ROUNDS ONE AFTER ANOTHER, whole, at these moments: days that ended, and one as far as it has come
pub record RoundsDone (config : Config) (old new : LifeState) (given : List ℕ) (r0 r1 : Records)
    : Type 0 where
  pub days : List DayEnded
  pub added : Added
  pub grew : Grew r0 r1 (all_added days added)
  pub past : past_of new.engine.journal.entries
      ≡ went_on old.engine.journal.entries days []
  pub began : began_after (day_at (past_of old.engine.journal.entries)) days
      ≡ day_at (past_of new.engine.journal.entries)
  pub rounds : AreTold r1 → (reads : Reads) → StoodFor old reads
      → (reads' : Reads)
      × DaysFrom (DaySoFar config added reads' (world_of new.engine)) config old reads
      (map moment_of given) days
      × StoodFor new reads'

-- rounds and the end of both sides, whole, which leave these entries
pub record LifeDone (config : Config) (old : LifeState) (given : List ℕ) (last : ℕ)
    (r0 r1 : Records) (entries : List Entry) : Type 0 where
  pub days : List DayEnded
  pub left : DayLeft
  pub grew : Grew r0 r1 (all_added days left.added)
  pub goes_on : entries ≡ went_on old.engine.journal.entries days left.entries
  pub lives : AreTold r1 → (reads : Reads) → StoodFor old reads
      → DaysFrom (LastDay Answers config.names config.window config.reset (moment_of last) left)
      config old reads (map moment_of given) days

-- a round that failed: the day could not be turned, or an event of the round of the day ended the
-- life
pub data RoundFails (end : LifeEnd) (config : Config) (old : LifeState) (now : ℕ)
    (r0 r1 : Records) (entries : List Entry) : Type 0 where
  AtTurn : DayBroken end config old.engine now r0 r1 entries
      → RoundFails end config old now r0 r1 entries
  InRound : (mid : EngineState) → (between : Records)
      → DaysGoOn first_numbers mid.journal.entries
      → DayDone config old.engine mid now r0 between
      → Behind (past_of mid.journal.entries)
      (RoundBroken end config (on_engine old mid) now between r1) entries
      → RoundFails end config old now r0 r1 entries

-- a life of so many rounds that failed, behind all that was done before
pub record LifeBroken (end : LifeEnd) (config : Config) (old : LifeState) (rounds : ℕ)
    (given : List ℕ) (last : ℕ) (r0 r1 : Records) (entries : List Entry) : Type 0 where
  pub days : List DayEnded
  pub left : DayLeft
  pub grew : Grew r0 r1 (all_added days left.added)
  pub goes_on : entries ≡ went_on old.engine.journal.entries days left.entries
  pub fails : AreTold r1 → (reads : Reads) → StoodFor old reads
      → DaysFrom (LastFails end config (went_on old.engine.journal.entries days [])
      (moment_of last) left (length given ≡ rounds)) config old reads
      (map moment_of (given ++ last ∷ [])) days

-- ---- a life

-- how a life begins, over these entries of the disk
pub record BeginsWith (config : Config) (told : Option (List ℕ)) (before : List Entry)
    (old : LifeState) : Type 0 where
  pub entries : old.engine.journal.entries ≡ before
  pub world : world_of old.engine ≡ begun config (last_day before)
  pub journal : IfSome told (IsJournal config.names before)

-- How a life begins over these bytes: over the entries of a journal of these names, and over none
-- where the disk is unborn; refused exactly where they are no journal, or one of other names.
abbrev pub Begins : {T : Type 0} → (T → List Entry) → Names → List ℕ → Result T LifeEnd → Type 0
Begins entries names bytes (Ok life) = IsJournal names (entries life) bytes
Begins entries names bytes (Err (ends.JournalRefused at)) = JournalOf bytes (Refused at)
Begins entries names bytes (Err (ends.NamesDiffer kept given)) = (given ≡ names) × (kept ≢ names)
    × (others : List Entry) × JournalOf bytes (Born kept others)
Begins entries names bytes (Err ends.DiskFault) = Unit {0}
Begins entries names bytes (Err ends.NoMemory) = Unit {0}
Begins entries names bytes (Err end) = ⊥

-- a life that did not begin: nothing was done, and a disk that was unborn is that, or a journal
-- without entries
pub record IsUnbegun (end : LifeEnd) (names : Names) (told : Option (List ℕ))
    (before after : List ℕ → Type 0) (r0 r1 : Records) (k0 k1 : Option (List ℕ)) : Type 0 where
  pub wires : r1 ≡ r0
  pub clock : k1 ≡ k0
  pub begins : IfSome told (λ bytes.
      Begins {T = LifeState} (λ life. life.engine.journal.entries) names bytes (Err end))
  pub images : BornOrNot told before after names

-- nothing was done on the wires, the clock was not read, and of the disk this holds
pub record IsUntouched (disk_holds : Type 0) (r0 r1 : Records) (k0 k1 : Option (List ℕ)) : Type 0
  where
    pub disk : disk_holds
    pub wires : r1 ≡ r0
    pub clock : k1 ≡ k0

-- a life that came to its end
pub record LifeWhole (config : Config) (rounds : ℕ) (t0 t1 : Option (List ℕ)) (r0 r1 : Records)
    (k0 k1 : Option (List ℕ)) : Type 0 where
  pub before : List Entry
  pub old : LifeState
  pub begins : BeginsWith config t0 before old
  pub entries : List Entry
  pub stands : ForSome t1 (λ b. JournalOf b (Born config.names entries))
  pub given : List ℕ
  pub last : ℕ
  pub each : length given ≡ rounds
  pub moments : GrowsBy k0 k1 (given ++ last ∷ [])
  pub done : LifeDone config old given last r0 r1 entries

-- a life that an event ended
pub record LifeStopped (end : LifeEnd) (config : Config) (rounds : ℕ) (told : Option (List ℕ))
    (before after : List ℕ → Type 0) (r0 r1 : Records) (k0 k1 : Option (List ℕ)) : Type 0 where
  pub of_event : IfTold told (IsOfEvent end)
  pub entries : List Entry
  pub old : LifeState
  pub begins : BeginsWith config told entries old
  pub given : List ℕ
  pub last : ℕ
  pub most : length given ≤ rounds
  pub moments : GrowsBy k0 k1 (given ++ last ∷ [])
  pub left : LeavesOf told before after config.names
      (LifeBroken end config old rounds given last r0 r1)
