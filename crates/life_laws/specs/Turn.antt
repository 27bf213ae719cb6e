-- Own: a side's turn in a round, rounds, and a life; docs/DEFINITIONS.md, "A life".
use Rattle.std.specs.Prelude.{◌≡◌, ℕ, Bool, true, false, List, [], ◌∷◌, ◌++◌, map}
use Rattle.std.specs.declared.option.Option.{Option}
use Rattle.order_meaning.specs.declared.Side.{Side}
use Rattle.order_meaning.specs.declared.Side.TheVariants.{Client, Venue}
use Rattle.order_meaning.specs.declared.names.Names.{Names}
use Rattle.pair_entries.specs.declared.entry.Entry.{Entry}
use Rattle.event_decisions.specs.Event.{Event, Opened, Frame, Closed, Tick, End}
use Rattle.event_decisions.specs.Decide.{Asked, Words}
use Rattle.wires.specs.Wire as wire
use Rattle.wires.specs.Wire.{WireCall, Came, Connection, may_come}
use Rattle.session_frames.specs.Frames.{kind_of}
use Rattle.life_laws.specs.Bodies.{bodies_of}
use Rattle.life_laws.specs.Happens.{World, Added, up_on, nothing, Happens}

abbrev pub both : Added → Added → Added
both a b = record { client = a.client ++ b.client; venue = a.venue ++ b.venue }

abbrev pub on_side : Side → List WireCall → Added
on_side Client calls = record { client = calls; venue = [] }
on_side Venue calls = record { client = []; venue = calls }

-- ---- what a poll brings

abbrev pub with_up : Side → Bool → World → World
with_up Client up w = record w { client_up = up }
with_up Venue up w = record w { venue_up = up }

-- whether a connection stands after a poll
abbrev pub up_after : Bool → Came → Bool
up_after up wire.Nothing = up
up_after up wire.Opened = true
up_after up (wire.Bytes bytes) = up
up_after up wire.Closed = false
up_after up wire.Broken = false

-- the bytes read on the last connection, after a poll
abbrev pub read_after : List ℕ → Came → List ℕ
read_after read wire.Opened = []
read_after read (wire.Bytes bytes) = read ++ bytes
read_after read came = read

abbrev pub last_read : List Connection → List ℕ
last_read [] = []
last_read (connection ∷ []) = connection.read
last_read (connection ∷ next ∷ rest) = last_read (next ∷ rest)

-- the last connection, which there is, has read these
abbrev pub LastRead : List Connection → List ℕ → Type 0
LastRead [] read = ⊥
LastRead (connection ∷ []) read = connection.read ≡ read
LastRead (connection ∷ next ∷ rest) read = LastRead (next ∷ rest) read

-- the bodies by which the frames of a connection grew
abbrev pub AreNew : Side → List ℕ → Came → List (List ℕ) → Type 0
AreNew side read (wire.Bytes bytes) bodies =
    bodies_of (kind_of side) (read ++ bytes) ≡ bodies_of (kind_of side) read ++ bodies
AreNew side read came bodies = bodies ≡ []

-- the events of a poll
abbrev pub events_of : Side → Came → List (List ℕ) → List Event
events_of side wire.Nothing bodies = []
events_of side wire.Opened bodies = Opened side ∷ []
events_of side (wire.Bytes bytes) bodies = map (Frame side) bodies
events_of side wire.Closed bodies = Closed side ∷ []
events_of side wire.Broken bodies = Closed side ∷ []

-- ---- events one after another

-- a frame counts only while its connection stands
abbrev pub counts : World → Event → Bool
counts w (Frame side body) = up_on side w
counts w event = true

-- the bytes read on the last connection of each side
pub record Reads : Type 0 where
  pub client : List ℕ
  pub venue : List ℕ

module _ (answers : List Entry → (active : Bool) → Option Asked → Option Words → Type 0)
    (names : Names) (window : ℕ) where
  abbrev pub HappensIf : Bool → World → Event → ℕ → Added → World → Type 0
  HappensIf true before event now added after =
      Happens answers names window before event now added after
  HappensIf false before event now added after = (added ≡ nothing) × (after ≡ before)

  abbrev pub HappensOrNot : World → Event → ℕ → Added → World → Type 0
  HappensOrNot before event now added after =
      HappensIf (counts before event) before event now added after

  -- events one after another, at one moment
  abbrev pub AllHappen : World → List Event → ℕ → Added → World → Type 0
  AllHappen before [] now added after = (added ≡ nothing) × (after ≡ before)
  AllHappen before (event ∷ events) now added after =
      (first : Added) × (mid : World) × (rest : Added)
      × HappensOrNot before event now first mid × AllHappen mid events now rest after
      × (added ≡ both first rest)

  -- A SIDE'S TURN: its poll, the events of what came, and its tick
  pub record Turn (side : Side) (read : List ℕ) (before : World) (now : ℕ) (added : Added)
      (after : World) : Type 0 where
    pub came : Came
    pub bodies : List (List ℕ)
    pub new : AreNew side read came bodies
    pub rest : Added
    pub events : AllHappen (with_up side (up_after (up_on side before) came) before)
        (events_of side came bodies ++ Tick side ∷ []) now rest after
    pub all : added ≡ both (on_side side (wire.Poll came ∷ [])) rest

  -- A ROUND: the client's turn, and then the venue's
  pub record Round (reads : Reads) (before : World) (now : ℕ) (added : Added) (reads' : Reads)
      (after : World) : Type 0 where
    pub mid : World
    pub client_added : Added
    pub venue_added : Added
    pub client : Turn Client reads.client before now client_added mid
    pub venue : Turn Venue reads.venue mid now venue_added after
    pub all : added ≡ both client_added venue_added
    pub read : reads' ≡ record {
      client = read_after reads.client client.came;
      venue = read_after reads.venue venue.came;
    }
    -- nothing comes but what a wire may bring
    pub client_may : may_come before.client_up client.came ≡ true
    pub venue_may : may_come mid.venue_up venue.came ≡ true

  -- rounds one after another, each at a moment
  abbrev pub Rounds : Reads → World → List ℕ → Added → Reads → World → Type 0
  Rounds reads before [] added reads' after =
      (added ≡ nothing) × (reads' ≡ reads) × (after ≡ before)
  Rounds reads before (now ∷ moments) added reads' after =
      (first : Added) × (mid : World) × (mid_reads : Reads) × (rest : Added)
      × Round reads before now first mid_reads mid
      × Rounds mid_reads mid moments rest reads' after × (added ≡ both first rest)

  -- A LIFE: rounds, and then the end of both sides
  pub record Lives (reads : Reads) (before : World) (moments : List ℕ) (last : ℕ) (added : Added)
      (after : World) : Type 0 where
    pub mid : World
    pub read : Reads
    pub first : Added
    pub rest : Added
    pub rounds : Rounds reads before moments first read mid
    pub ends : AllHappen mid (End Client ∷ End Venue ∷ []) last rest after
    pub all : added ≡ both first rest
