-- Own: a life up to an event, which ended it; docs/DEFINITIONS.md, "A life".
use Rattle.std.specs.Prelude.{◌≡◌, ◌⊎◌, ℕ, Bool, true, List, [], ◌∷◌, ◌++◌}
use Rattle.std.specs.declared.option.Option.{Option}
use Rattle.order_meaning.specs.declared.Side.{Side}
use Rattle.order_meaning.specs.declared.Side.TheVariants.{Client, Venue}
use Rattle.order_meaning.specs.declared.names.Names.{Names}
use Rattle.pair_entries.specs.declared.entry.Entry.{Entry}
use Rattle.event_decisions.specs.Event.{Event, Tick, End}
use Rattle.event_decisions.specs.Decide.{Asked, Words}
use Rattle.wires.specs.Wire.{Came, Poll, may_come}
use Rattle.life_laws.specs.Happens.{World, Added, up_on}
use Rattle.life_laws.specs.Turn.{both, on_side, with_up, up_after, AreNew, events_of, counts}
use Rattle.life_laws.specs.Turn.{Reads, AllHappen, Turn, Rounds}

module _ (answers : List Entry → (active : Bool) → Option Asked → Option Words → Type 0)
    (names : Names) (window : ℕ) where
  -- of these events the first happened, and this one, which counts, is next
  pub record UpTo (before : World) (events : List Event) (now : ℕ) (added : Added) (mid : World)
      (event : Event) : Type 0 where
    pub first : List Event
    pub rest : List Event
    pub split : events ≡ first ++ event ∷ rest
    pub happen : AllHappen answers names window before first now added mid
    pub counted : counts mid event ≡ true

  -- a side's turn up to an event: its poll, and of the events of what came and its tick the first
  pub record TurnUpTo (side : Side) (read : List ℕ) (before : World) (now : ℕ) (added : Added)
      (mid : World) (event : Event) : Type 0 where
    pub came : Came
    pub may : may_come (up_on side before) came ≡ true
    pub bodies : List (List ℕ)
    pub new : AreNew side read came bodies
    pub rest : Added
    pub events : UpTo (with_up side (up_after (up_on side before) came) before)
        (events_of side came bodies ++ Tick side ∷ []) now rest mid event
    pub all : added ≡ both (on_side side (Poll came ∷ [])) rest

  -- the client's turn whole, and the venue's up to an event
  pub record VenueUpTo (reads : Reads) (before : World) (now : ℕ) (added : Added) (mid : World)
      (event : Event) : Type 0 where
    pub between : World
    pub first : Added
    pub rest : Added
    pub client : Turn answers names window Client reads.client before now first between
    pub client_may : may_come before.client_up client.came ≡ true
    pub venue : TurnUpTo Venue reads.venue between now rest mid event
    pub all : added ≡ both first rest

  -- a round up to an event: within the client's turn, or within the venue's
  abbrev pub RoundUpTo : Reads → World → ℕ → Added → World → Event → Type 0
  RoundUpTo reads before now added mid event =
      TurnUpTo Client reads.client before now added mid event
      ⊎ VenueUpTo reads before now added mid event

  -- ALL THAT A LIFE DID BEFORE AN EVENT: rounds, and what there was of one more, or of the end of
  -- both sides
  pub record LifeUpTo (reads : Reads) (before : World) (moments : List ℕ) (now : ℕ) (added : Added)
      (mid : World) (event : Event) : Type 0 where
    pub between : World
    pub read : Reads
    pub first : Added
    pub rest : Added
    pub rounds : Rounds answers names window reads before moments first read between
    pub last : RoundUpTo read between now rest mid event
        ⊎ UpTo between (End Client ∷ End Venue ∷ []) now rest mid event
    pub all : added ≡ both first rest
