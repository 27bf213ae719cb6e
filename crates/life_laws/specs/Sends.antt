-- Own: the sends of an event on one wire; docs/DEFINITIONS.md, "A life".
use Rattle.std.specs.Prelude.{◌≡◌, ◌⊎◌, ℕ, Bool, true, false, ◌&&◌, if◌then◌else◌, List, [], ◌∷◌}
use Rattle.std.specs.Prelude.{◌++◌, take}
use Rattle.wires.specs.Wire.{WireCall, Send, HangUp}

-- These pieces were to be sent, on a wire that is within a connection or not, and it is so
-- afterwards or not: each was sent whole, up to one that failed and ended the connection; without a
-- connection none is sent.
abbrev pub Sends : (up : Bool) → List (List ℕ) → List WireCall → (after : Bool) → Type 0
Sends up [] calls after = (calls ≡ []) × (after ≡ up)
Sends false (piece ∷ pieces) calls after = (calls ≡ []) × (after ≡ false)
Sends true (piece ∷ pieces) calls after =
    ((more : List WireCall) × (calls ≡ Send piece piece true ∷ more)
    × Sends true pieces more after)
    ⊎ ((n : ℕ) × (calls ≡ Send piece (take n piece) false ∷ []) × (after ≡ false))

-- a hang up, where one is wanted and the connection still stands
abbrev pub hang_up_if : Bool → List WireCall
hang_up_if hangs = if hangs then HangUp ∷ [] else []

-- The sends of an event on one wire, and its hang up.
pub record Acts (up : Bool) (pieces : List (List ℕ)) (hangs : Bool) (calls : List WireCall)
    (after : Bool) : Type 0 where
  pub sent : List WireCall
  pub still : Bool
  pub sends : Sends up pieces sent still
  pub all : calls ≡ sent ++ hang_up_if (still && hangs)
  pub ends : after ≡ (if hangs then false else still)

-- Of the pieces of an event some front was sent.
pub record Front (up : Bool) (pieces : List (List ℕ)) (calls : List WireCall) : Type 0 where
  pub front : List (List ℕ)
  pub rest : List (List ℕ)
  pub joined : front ++ rest ≡ pieces
  pub after : Bool
  pub sends : Sends up front calls after
