-- Inside: a wire on which the lines of a life come; no clause of run rests on it.
use Rattle.std.specs.Prelude.{◌≡◌, Bool, false, List, [], All, IfSome, Some}
use Rattle.std.specs.declared.option.Option.{Option}
use Rattle.order_meaning.specs.declared.Side.{Side}
use Rattle.wires.specs.Wire.{WireCall, is_within}
use Rattle.wires.specs.MemWire.{WireState}
use Rattle.capture_text.specs.declared.capture.Event.{Event}
use Rattle.capture_text.specs.Line.{IsBounded}
use Rattle.capture_replay.specs.Rounds.{script_of}

-- it knows whether it is within a connection, and what is left is within its bounds
pub record IsSound (told : Option (List WireCall)) (within : Bool) (lines : List Event)
    : Type 0 where
  pub inside : IfSome told (λ calls. within ≡ is_within calls)
  pub bounded : All IsBounded lines

-- nothing was done on it
abbrev pub unplayed : Side → List Event → WireState
unplayed side lines = record {
  script = script_of side lines;
  recorded = Some [];
  within = false;
  calls = record { made = 0; fail = []; faults = 0 };
  polls = 0;
}
