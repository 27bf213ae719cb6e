-- Own: what was sent on a wire, or hung up, where the wire tells its record.
use Rattle.std.specs.Prelude.{◌≡◌, ℕ, ◌≤◌, Bool, ◌&&◌, if◌then◌else◌, List, [], ◌∷◌, ◌++◌}
use Rattle.std.specs.Prelude.{false}
use Rattle.std.specs.declared.option.Option.{Option}
use Rattle.std.specs.Option.{ForSome, option_map_or}
use Rattle.order_meaning.specs.declared.Side.{Side}
use Rattle.pair_entries.specs.declared.entry.Out.{Out}
use Rattle.kept_entries.specs.Numbers.{is_side}
use Rattle.pair_entries.specs.Payload.{IsOut}
use Rattle.wires.specs.Told.{GrowsBy}
use Rattle.wires.specs.Wire.{WireCall, is_within}
use Rattle.life_laws.specs.Sends.{Sends, hang_up_if}

-- a wire that tells its record is within a connection exactly where the gateway has one
abbrev pub Agrees : Option (List WireCall) → Bool → Type 0
Agrees told up = ForSome told (λ calls. is_within calls ≡ up)

-- these pieces were sent
pub record Sent (old new : Option (List WireCall)) (up : Bool) (pieces : List (List ℕ))
    (after : Bool) : Type 0 where
  pub calls : List WireCall
  pub grows : GrowsBy old new calls
  pub sends : Sends up pieces calls after

-- a front of them was
pub record FrontSent (old new : Option (List WireCall)) (up : Bool) (pieces : List (List ℕ))
    : Type 0 where
  pub front : List (List ℕ)
  pub rest : List (List ℕ)
  pub joined : front ++ rest ≡ pieces
  pub after : Bool
  pub sent : Sent old new up front after

-- a hang up, where it is called for and the connection still stands
pub record Hung (old new : Option (List WireCall)) (up : Bool) (hangs : Bool) (after : Bool)
    : Type 0 where
  pub grows : GrowsBy old new (hang_up_if (up && hangs))
  pub ends : after ≡ (if hangs then false else up)

-- whether this side is the one that is to be hung up
abbrev pub hung_side : Side → Option Side → Bool
hung_side side hang_up = option_map_or (is_side side) hang_up false

-- an out that has a frame
pub record IsSendable (out : Out) : Type 0 where
  pub bounds : IsOut out
  pub number : 1 ≤ out.number

abbrev pub AreSendable : List Out → Type 0
AreSendable [] = Unit {0}
AreSendable (out ∷ outs) = IsSendable out × AreSendable outs
