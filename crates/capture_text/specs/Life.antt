-- Inside: what the readers of lives answer.
use Rattle.std.specs.Prelude.{◌≡◌, ◌≢◌, ℕ, ◌+◌, ◌-◌, ◌≤◌, ◌^◌, min, List, [], ◌∷◌, ◌++◌, map}
use Rattle.std.specs.Prelude.{length, All, codes, Result, Ok, Err, Some, None}
use Rattle.std.specs.declared.option.Option.{Option}
use Rattle.std.specs.List.{flat_map}
use Rattle.order_meaning.specs.declared.Side.TheVariants.{Client, Venue}
use Rattle.capture_text.specs.declared.capture.Event.{Event}
use Rattle.capture_text.specs.declared.life.Open.{Open}
use Rattle.capture_text.specs.declared.reading.CaptureFault.{CaptureFault}
use Rattle.capture_text.specs.declared.reading.CaptureFault.TheVariants.{Line, NoMemory}
use Rattle.capture_text.specs.Capture.{line_of, life_lines, is_open, is_fresh, MayStand, AreEvents}
use Rattle.capture_text.specs.Reading.{parts}

-- a number of a line, up to the last value
abbrev pub counted : ℕ → ℕ
counted number = min number (2 ^ 32 - 1)

-- events in the order in which they are looked back at, behind these
abbrev pub behind : List Event → List Event → List Event
behind before [] = before
behind before (event ∷ events) = behind (event ∷ before) events

-- which sides are open, and whether no line stands before
pub record AreOpen (sides : Open) (before : List Event) : Type 0 where
  pub client : sides.client ≡ is_open Client before
  pub venue : sides.venue ≡ is_open Venue before
  pub fresh : sides.fresh ≡ is_fresh before

-- the event of a line that may stand behind these, or the line is that of none
abbrev pub Follows : List ℕ → List Event → Option Event → Type 0
Follows line before (Some event) = (line ≡ line_of event) × MayStand before event
Follows line before None = (event : Event) → MayStand before event → line ≢ line_of event

-- a part of a text behind the events of a life goes on with none and does not end it; or no LF ends
-- it
abbrev pub Breaks : List Event → List ℕ → List (List ℕ) → Type 0
Breaks events part (next ∷ after) = (part ≢ codes "end") × Follows part (behind [] events) None
Breaks events part [] = Unit {0}

-- a life up to its `end`, what stands behind it, and the number of its last line
pub record IsLife (text : List ℕ) (before : ℕ) (life : List Event) (rest : List ℕ) (number : ℕ)
    : Type 0 where
  pub events : AreEvents [] life
  pub lines : parts text ≡ map line_of life ++ codes "end" ∷ parts rest
  pub place : number ≡ counted (before + length life + 1)

pub record IsBroken (text : List ℕ) (before number : ℕ) : Type 0 where
  pub events : List Event
  pub part : List ℕ
  pub after : List (List ℕ)
  pub sound : AreEvents [] events
  pub split : parts text ≡ map line_of events ++ part ∷ after
  pub place : number ≡ counted (before + length events + 1)
  pub breaks : Breaks events part after

abbrev pub Breaking : List ℕ → ℕ → CaptureFault → Type 0
Breaking text before (Line number) = IsBroken text before number
Breaking text before NoMemory = Unit {0}

-- lives begin with these lines
pub record Begun (lines : List (List ℕ)) : Type 0 where
  pub lives : List (List Event)
  pub rest : List (List ℕ)
  pub sound : All (AreEvents []) lives
  pub some : 1 ≤ length lives
  pub split : flat_map life_lines lives ≡ lines ++ rest

-- a part of a text is outside, behind lines with which lives may begin
abbrev pub IsNoLine : List (List ℕ) → List ℕ → List (List ℕ) → Type 0
IsNoLine before part (next ∷ after) = Begun (before ++ part ∷ []) → ⊥
IsNoLine before part [] = (lives : List (List Event)) → All (AreEvents []) lives → 1 ≤ length lives
    → flat_map life_lines lives ≡ before → part ≢ []

-- the lives of a text, or its first part outside
pub record AreLives (text : List ℕ) (lives : List (List Event)) : Type 0 where
  pub sound : All (AreEvents []) lives
  pub some : 1 ≤ length lives
  pub lines : parts text ≡ flat_map life_lines lives ++ [] ∷ []

pub record AreNone (text : List ℕ) (number : ℕ) : Type 0 where
  pub before : List (List ℕ)
  pub part : List ℕ
  pub after : List (List ℕ)
  pub split : parts text ≡ before ++ part ∷ after
  pub place : number ≡ counted (length before + 3)
  pub begins : Begun before
  pub outside : IsNoLine before part after

abbrev pub LivesSay : List ℕ → Result (List (List Event)) CaptureFault → Type 0
LivesSay text (Ok lives) = AreLives text lives
LivesSay text (Err (Line number)) = AreNone text number
LivesSay text (Err NoMemory) = Unit {0}
