-- Inside: what a side's turn did, for each stream of bytes that its framer stood for.
use Rattle.std.specs.Prelude.{◌≡◌, ℕ, ◌≤◌, true, List, [], ◌∷◌, ◌++◌, is_some, Result, OnOk, OnErr}
use Rattle.std.specs.declared.option.Option.{Option}
use Rattle.std.specs.List.{filter_map}
use Rattle.outside.specs.Causes.{next_count}
use Rattle.wires.specs.Wire.{Came, WireCall, Poll, Opened, Bytes, may_come}
use Rattle.order_meaning.specs.declared.Side.{Side}
use Rattle.order_meaning.specs.declared.Side.TheVariants.{Client, Venue}
use Rattle.frame_grammar.specs.Held.{Held, room}
use Rattle.frame_grammar.specs.Cut.{Piece, ComeFirst, Cut}
use Rattle.frame_grammar.specs.Framer.{StandsFor}
use Rattle.frame_grammar.specs.declared.framer.TheConstants.{LEAST_ROOM}
use Rattle.session_frames.specs.Frames.{kind_of}
use Rattle.pair_entries.specs.declared.entry.Entry.{Entry}
use Rattle.event_decisions.specs.Event.{Event, Tick}
use Rattle.message_answers.specs.Answer.{Answers}
use Rattle.life_laws.specs.Bodies.{body_of}
use Rattle.life_laws.specs.Happens.{World, Added, up_on}
use Rattle.life_laws.specs.Turn.{on_side, both, with_up, up_after, AreNew, events_of, read_after}
use Rattle.life_laws.specs.Turn.{AllHappen}
use Rattle.gateway_config.specs.declared.config.Config.{Config}
use Rattle.gateway_life.specs.declared.end.LifeEnd.{LifeEnd}
use Rattle.gateway_life.specs.Stepped.{Records, Grew, Failed}

-- the framer has taken this stream, and answered all of it that has come whole
pub record StandsWhole (held : Held) (read : List ℕ) : Type 0 where
  pub pieces : List Piece
  pub rest : List ℕ
  pub cut : Cut held.kind read pieces rest
  pub stands : StandsFor held read pieces

-- the bodies that a framer answered since, for each stream and list that it stood for
abbrev pub Answered : Held → Held → List (List ℕ) → Type 0
Answered old new bodies = (stream : List ℕ) (answered : List Piece)
    → StandsFor old stream answered
    → (more : List Piece) × StandsFor new stream (answered ++ more)
    × (filter_map body_of more ≡ bodies)

-- and that these were all
abbrev pub AnsweredAll : Held → Held → List (List ℕ) → Type 0
AnsweredAll old new bodies = (stream : List ℕ) (answered : List Piece)
    → StandsFor old stream answered
    → (more : List Piece) × (rest : List ℕ) × StandsFor new stream (answered ++ more)
    × Cut new.kind stream (answered ++ more) rest × (filter_map body_of more ≡ bodies)

-- what a framer answered while frames were dealt with: these bodies, and no more where all were;
-- behind one that ended the life there may have been more
pub record Took {V : Type 0} (old new : Held) (bodies : List (List ℕ)) (result : Result V LifeEnd)
    : Type 0 where
  pub all : OnOk result (AnsweredAll old new bodies)
  pub first : OnErr result ((stream : List ℕ) (answered : List Piece)
      → StandsFor old stream answered
      → (more : List Piece) × (left : List ℕ) × ComeFirst old.kind stream (answered ++ more) left
      × (filter_map body_of more ≡ bodies))

-- it matters where bytes came
abbrev pub IfBytes : Came → Type 0 → Type 0
IfBytes (Bytes bytes) P = P
IfBytes came P = Unit {0}

-- it matters where no connection opened
abbrev pub UnlessOpened : Came → Type 0 → Type 0
UnlessOpened Opened P = Unit {0}
UnlessOpened came P = P

-- What a poll found was dealt with: these bodies came, and the framer stands for what was read; or
-- these came first, where one of its events ended the life.
pub record Arrived {V : Type 0} (side : Side) (old next : Held) (came : Came)
    (bodies : List (List ℕ)) (result : Result V LifeEnd) : Type 0 where
  pub new : OnOk result ((read : List ℕ) → IfBytes came (StandsWhole old read)
      → AreNew side read came bodies)
  pub stands : OnOk result ((read : List ℕ) → UnlessOpened came (StandsWhole old read)
      → StandsWhole next (read_after read came))
  pub first : OnErr result ((read : List ℕ) → IfBytes came (StandsWhole old read)
      → (more : List (List ℕ)) × AreNew side read came (bodies ++ more))

-- a framer between polls: it is of this side, stands for some stream, and has room for a poll
pub record IsDrained (side : Side) (held : Held) : Type 0 where
  pub kind : held.kind ≡ kind_of side
  pub stands : (stream : List ℕ) × (answered : List Piece) × StandsFor held stream answered
  pub room : LEAST_ROOM ≤ room held

-- the record of a side
abbrev pub record_on : Side → Records → Option (List WireCall)
record_on Client r = r.client
record_on Venue r = r.venue

-- how often the wire of a side was polled, behind a turn of a side
abbrev pub polls_after : (wire turn : Side) → ℕ → ℕ
polls_after Client Client count = next_count count
polls_after Venue Venue count = next_count count
polls_after wire turn count = count

-- A SIDE'S TURN, whole, for whatever was read on a connection that stands and that the framer
-- stood for.
pub record Turned (side : Side) (old next : Held) (config : Config) (before : World) (now : ℕ)
    (after : World) (r0 r1 : Records) : Type 0 where
  pub came : Came
  pub may : is_some (record_on side r0) ≡ true → may_come (up_on side before) came ≡ true
  pub bodies : List (List ℕ)
  pub rest : Added
  pub grew : Grew r0 r1 (both (on_side side (Poll came ∷ [])) rest)
  pub events : AllHappen Answers config.names config.window
      (with_up side (up_after (up_on side before) came) before)
      (events_of side came bodies ++ Tick side ∷ []) now rest after
  pub new : (read : List ℕ) → IfBytes came (StandsWhole old read) → AreNew side read came bodies
  pub stands : (read : List ℕ) → UnlessOpened came (StandsWhole old read)
      → StandsWhole next (read_after read came)

-- a side's turn in which one of these first events ended the life
pub record TurnBroken (end : LifeEnd) (side : Side) (old : Held) (config : Config)
    (past : List Entry) (before : World) (now : ℕ) (r0 r1 : Records) (entries : List Entry)
    : Type 0 where
  pub came : Came
  pub may : is_some (record_on side r0) ≡ true → may_come (up_on side before) came ≡ true
  pub between : Records
  pub polled : Grew r0 between (on_side side (Poll came ∷ []))
  pub first : List Event
  pub failed : Failed end config past (with_up side (up_after (up_on side before) came) before)
      first now between r1 entries
  pub new : (read : List ℕ) → IfBytes came (StandsWhole old read)
      → (bodies : List (List ℕ)) × (rest : List Event) × AreNew side read came bodies
      × (events_of side came bodies ++ Tick side ∷ [] ≡ first ++ rest)
