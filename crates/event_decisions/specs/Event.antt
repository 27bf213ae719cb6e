-- Own: what may happen to one of the two sessions.
use Rattle.std.specs.Prelude.{ℕ, List}
use Rattle.order_meaning.specs.declared.Side.{Side}
use Rattle.frame_grammar.specs.Frame.{IsBody}

-- a connection opened; a frame with this body came; the connection ended; time went by; the gateway
-- ends
pub data Event : Type 0 where
  Opened : (side : Side) → Event
  Frame : (side : Side) → (body : List ℕ) → Event
  Closed : (side : Side) → Event
  Tick : (side : Side) → Event
  End : (side : Side) → Event

abbrev pub side_of : Event → Side
side_of (Opened side) = side
side_of (Frame side body) = side
side_of (Closed side) = side
side_of (Tick side) = side
side_of (End side) = side

-- what comes with an event is the body of a frame
abbrev pub IsFramed : Event → Type 0
IsFramed (Frame side body) = IsBody body
IsFramed event = Unit {0}
