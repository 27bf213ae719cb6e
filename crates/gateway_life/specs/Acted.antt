-- Inside: what an event did on a wire, whole.
use Rattle.std.specs.Prelude.{ℕ, Bool, List}
use Rattle.std.specs.declared.option.Option.{Option}
use Rattle.wires.specs.Told.{GrowsBy}
use Rattle.wires.specs.Wire.{WireCall}
use Rattle.life_laws.specs.Sends.{Acts}

-- the sends of these pieces, and then the hang up
pub record Acted (old new : Option (List WireCall)) (up : Bool) (pieces : List (List ℕ))
    (hangs : Bool) (after : Bool) : Type 0 where
  pub calls : List WireCall
  pub grows : GrowsBy old new calls
  pub acts : Acts up pieces hangs calls after
