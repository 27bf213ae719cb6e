-- Own: in which order a wire of the edge gives what came; docs/DEFINITIONS.md, "The edge".
use Rattle.std.specs.Prelude.{◌≡◌, ℕ, Bool, true, List, Option, None, Result}
use Rattle.wires.specs.declared.wire.Arrival.{Arrival}
use Rattle.wires.specs.Wire.{WireCall, Poll, came_of, may_come, within_after}

-- the record of a wire that tells nothing
abbrev pub untold : Option (List WireCall)
untold = None

-- A poll of a wire that was within a connection, or was not, gave what may come there, and left
-- the wire as that leaves it.
pub record InOrder {E : Type 0} (old new : Bool) (result : Result Arrival E) (buf : List ℕ)
    : Type 0 where
  pub allowed : may_come old (came_of result buf) ≡ true
  pub within : new ≡ within_after old (Poll (came_of result buf))
