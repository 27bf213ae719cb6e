-- Own: one event of a life: what it commits, and what it does on the wires; docs/DEFINITIONS.md, "A
-- life".
use Rattle.std.specs.Prelude.{◌≡◌, ◌⊎◌, ℕ, Bool, true, false, if◌then◌else◌, List, [], ◌++◌, map}
use Rattle.std.specs.Prelude.{Ok}
use Rattle.std.specs.declared.option.Option.{Option}
use Rattle.std.specs.Option.{option_map_or, option_to_list}
use Rattle.order_meaning.specs.declared.Side.{Side}
use Rattle.order_meaning.specs.declared.Side.TheVariants.{Client, Venue}
use Rattle.order_meaning.specs.declared.names.Names.{Names}
use Rattle.session_core.specs.declared.session.Session.{Session}
use Rattle.session_core.specs.Table as session
use Rattle.pair_entries.specs.declared.entry.Out.{Out}
use Rattle.pair_entries.specs.declared.entry.Entry.{Entry}
use Rattle.kept_entries.specs.Numbers.{is_side, outs_to}
use Rattle.event_decisions.specs.Event.{Event, side_of}
use Rattle.event_decisions.specs.Decide.{Sessions, Asked, Words, Decision, Decides}
use Rattle.event_decisions.specs.Decide.{session_of, is_active}
use Rattle.wires.specs.Wire.{WireCall}
use Rattle.life_laws.specs.Forms.{Form, First, placed_at, form_frame}
use Rattle.life_laws.specs.Repeats.{repeated_to}
use Rattle.life_laws.specs.Sends.{Acts, Front}

-- ---- what an event sends

-- outs of the event's own side are sent, and those of the far side where its session is active
abbrev pub is_sent : Side → Event → Sessions → Bool
is_sent side event s =
    if is_side side (side_of event) then true else is_active (session_of side s).link

-- an out, as it is sent first
abbrev pub first_form : ℕ → Out → Form
first_form at out = First (placed_at at out)

-- an entry's outs to a side, where they are sent
abbrev pub firsts : Side → Bool → Option Entry → List Form
firsts side sent entry =
    option_map_or (λ e. if sent then map (first_form e.at) (outs_to side e.outs) else []) entry []

abbrev pub firsts_to : Side → Event → Decision → List Form
firsts_to side event d = firsts side (is_sent side event d.sessions) d.entry

-- THE FRAMES OF AN EVENT TO A SIDE, over the entries with its own: what is sent again goes first
abbrev pub forms_to : Side → List Entry → Event → ℕ → Decision → List Form
forms_to side entries event now d =
    repeated_to side entries now d.repeat ++ firsts_to side event d

abbrev pub pieces_to : Names → Side → List Entry → Event → ℕ → Decision → List (List ℕ)
pieces_to names side entries event now d =
    map (form_frame names side) (forms_to side entries event now d)

abbrev pub hangs : Side → Decision → Bool
hangs side d = option_map_or (is_side side) d.hang_up false

-- ---- the gateway between events

-- a session without a connection is down
abbrev pub standing : (up : Bool) → Session → Session
standing up s = if up then s else session.down s

abbrev pub both_standing : (client_up venue_up : Bool) → Sessions → Sessions
both_standing client_up venue_up s =
    record { client = standing client_up s.client; venue = standing venue_up s.venue }

-- the journal, the sessions, and which connections stand
pub record World : Type 0 where
  pub entries : List Entry
  pub sessions : Sessions
  pub client_up : Bool
  pub venue_up : Bool

abbrev pub up_on : Side → World → Bool
up_on Client w = w.client_up
up_on Venue w = w.venue_up

-- what was done on the wires
pub record Added : Type 0 where
  pub client : List WireCall
  pub venue : List WireCall

abbrev pub nothing : Added
nothing = record { client = []; venue = [] }

-- ---- one event

module _ (answers : List Entry → (active : Bool) → Option Asked → Option Words → Type 0)
    (names : Names) (window : ℕ) where
  -- ONE EVENT, WHOLE
  pub record Happens (before : World) (event : Event) (now : ℕ) (added : Added) (after : World)
      : Type 0 where
    pub decision : Decision
    pub decides :
        Decides answers names window before.entries before.sessions event now (Ok decision)
    pub entries : after.entries ≡ before.entries ++ option_to_list decision.entry
    pub client : Acts before.client_up
        (pieces_to names Client after.entries event now decision) (hangs Client decision)
        added.client after.client_up
    pub venue : Acts before.venue_up
        (pieces_to names Venue after.entries event now decision) (hangs Venue decision)
        added.venue after.venue_up
    pub sessions :
        after.sessions ≡ both_standing after.client_up after.venue_up decision.sessions

  -- An event that ended the life where a message that is sent again could not be read: its entry
  -- stands, and a part was sent.
  pub record Stops (before : World) (event : Event) (now : ℕ) (added : Added)
      (entries : List Entry) : Type 0 where
    pub decision : Decision
    pub decides :
        Decides answers names window before.entries before.sessions event now (Ok decision)
    pub is : entries ≡ before.entries ++ option_to_list decision.entry
    pub client : Front before.client_up
        (pieces_to names Client entries event now decision) added.client
    pub venue : Front before.venue_up
        (pieces_to names Venue entries event now decision) added.venue

  -- AN EVENT THAT ENDED THE LIFE: nothing of it came about, or its entry stands and a part was sent
  abbrev pub Fails : World → Event → ℕ → Added → List Entry → Type 0
  Fails before event now added entries =
      ((entries ≡ before.entries) × (added ≡ nothing)) ⊎ Stops before event now added entries
