-- Inside: events of a life, by what they added to the records of the wires.
use Rattle.std.specs.Prelude.{◌≡◌, ◌⊎◌, ℕ, ◌≤◌, List, ◌∷◌, ◌++◌, Result, Ok, Err, true}
use Rattle.std.specs.declared.option.Option.{Option}
use Rattle.std.specs.Option.{option_to_list}
use Rattle.outside.specs.Causes.{Rose}
use Rattle.wires.specs.Told.{GrowsBy}
use Rattle.wires.specs.Wire.{WireCall}
use Rattle.pair_entries.specs.declared.entry.Entry.{Entry}
use Rattle.event_decisions.specs.Event.{Event}
use Rattle.event_decisions.specs.Decide.{Decision, Decides}
use Rattle.message_answers.specs.Answer.{Answers}
use Rattle.life_laws.specs.Happens.{World, Added, Happens}
use Rattle.life_laws.specs.Turn.{AllHappen, counts}
use Rattle.gateway_config.specs.declared.config.Config.{Config}
use Rattle.gateway_life.specs.declared.end.LifeEnd.{LifeEnd}
use Rattle.gateway_life.specs.declared.end.LifeEnd.TheVariants as ends
use Rattle.gateway_life.specs.Fails.{IsWhy, FailsBy}
use Rattle.gateway_life.specs.Ready.{IfTold}

-- the records of both wires
pub record Records : Type 0 where
  pub client : Option (List WireCall)
  pub venue : Option (List WireCall)

abbrev pub records : Option (List WireCall) → Option (List WireCall) → Records
records client venue = record { client = client; venue = venue }

-- both grew by these
pub record Grew (old new : Records) (added : Added) : Type 0 where
  pub client : GrowsBy old.client new.client added.client
  pub venue : GrowsBy old.venue new.venue added.venue

-- one event, whole
pub record Stepped (config : Config) (before : World) (event : Event) (now : ℕ) (after : World)
    (old new : Records) : Type 0 where
  pub added : Added
  pub grew : Grew old new added
  pub happens : Happens Answers config.names config.window before event now added after

-- events one after another
pub record AllStepped (config : Config) (before : World) (events : List Event) (now : ℕ)
    (after : World) (old new : Records) : Type 0 where
  pub added : Added
  pub grew : Grew old new added
  pub happen : AllHappen Answers config.names config.window before events now added after

-- ---- an event that ended the life

-- nothing of it stands, or its entry does
abbrev pub MayStand : LifeEnd → Config → World → Event → ℕ → List Entry → Type 0
MayStand ends.DiskFault config before event now entries =
    (entries ≡ before.entries)
    ⊎ ((d : Decision)
    × Decides Answers config.names config.window before.entries before.sessions event now (Ok d)
    × (entries ≡ before.entries ++ option_to_list d.entry))
MayStand end config before event now entries = entries ≡ before.entries

-- an event may end a life so
abbrev pub IsOfEvent : LifeEnd → Type 0
IsOfEvent ends.Done = ⊥
IsOfEvent (ends.JournalRefused at) = ⊥
IsOfEvent (ends.NamesDiffer kept given) = ⊥
IsOfEvent end = Unit {0}

-- a life that did not begin, or that an event ended, is not done
abbrev pub IsNotDone : LifeEnd → Type 0
IsNotDone ends.Done = ⊥
IsNotDone end = Unit {0}

-- the same over a disk: one that does not tell its bytes may be refused in the middle of a life
pub record EndsEvent (told : Option (List ℕ)) (end : LifeEnd) : Type 0 where
  pub not_done : IsNotDone end
  pub of_event : IfTold told (IsOfEvent end)

-- behind entries of days before
pub record Broken (end : LifeEnd) (config : Config) (past : List Entry) (before : World)
    (event : Event) (now : ℕ) (old new : Records) (entries : List Entry) : Type 0 where
  pub why : IsWhy end config past before event now
  pub added : Added
  pub grew : Grew old new added
  pub fails : FailsBy end config before event now added entries

-- of these events the first happened, one counted and ended the life, and no more did
pub record Failed (end : LifeEnd) (config : Config) (past : List Entry) (before : World)
    (events : List Event) (now : ℕ) (old new : Records) (entries : List Entry) : Type 0 where
  pub first : List Event
  pub last : Event
  pub rest : List Event
  pub split : events ≡ first ++ last ∷ rest
  pub mid : World
  pub between : Records
  pub all : AllStepped config before first now mid old between
  pub counted : counts mid last ≡ true
  pub broken : Broken end config past mid last now between new entries

-- a disk fault comes only where the count of faults rose, and else the count stands still
abbrev pub HasCauseOf : {T : Type 0} → ℕ → ℕ → Result T LifeEnd → Type 0
HasCauseOf before now (Err ends.DiskFault) = (before ≤ now) × Rose before now
HasCauseOf before now answer = now ≡ before
