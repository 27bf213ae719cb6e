-- Own: what contracts see of a wire in memory, and what each call does to that.
use Rattle.std.specs.Prelude.{◌≡◌, ◌⊎◌, ℕ, Bool, true, false, if◌then◌else◌, List, [], ◌∷◌, ◌++◌}
use Rattle.std.specs.Prelude.{take, map, is_some, Some, None, Result, Ok, Err, IsErr, OnOk, IfSome}
use Rattle.std.specs.declared.option.Option.{Option}
use Rattle.std.specs.Option.{option_map}
use Rattle.outside.specs.Causes.{faults_after}
use Rattle.outside.specs.Memory.{CallsState, IsListed, called}
use Rattle.wires.specs.Told.{GrowsBy}
use Rattle.wires.specs.Wire.{Came, WireCall, Send, HangUp, Connection, transcript, within_after}
use Rattle.wires.specs.Script.{item_of, Plays}
use Rattle.wires.specs.declared.script.Script.{Script}

pub record WireState : Type 0 where
  -- what is still to come
  pub script : List Came
  -- what was done; none from the first refusal of memory on
  pub recorded : Option (List WireCall)
  pub within : Bool
  -- the polls and the sends, counted together
  pub calls : CallsState
  pub polls : ℕ

-- a wire of this script on which nothing was done
abbrev pub fresh : List Script → List ℕ → WireState
fresh script fail = record {
  script = map item_of script;
  recorded = Some [];
  within = false;
  calls = record { made = 0; fail = fail; faults = 0 };
  polls = 0;
}

-- a wire plays a script, of which so much is left
abbrev pub PlaysTo : WireState → (script left : List Came) → Type 0
PlaysTo wire script left = IfSome wire.recorded (λ calls. Plays false script calls left)

-- what is left of it is still to come
abbrev pub plays : WireState → List Came → Type 0
plays wire script = PlaysTo wire script wire.script

-- with a call in its record, where it has one
abbrev pub noted : WireCall → WireState → WireState
noted call wire = record wire {
  recorded = option_map (λ calls. calls ++ call ∷ []) wire.recorded;
  within = within_after wire.within call;
}

-- without its record, and between connections
abbrev pub lost : WireState → WireState
lost wire = record wire { recorded = None; within = false }

-- after a hang up, which between connections does nothing
abbrev pub hung_up : WireState → WireState
hung_up wire = if wire.within then noted HangUp wire else wire

-- the calls of a record that is told, and none of another
abbrev pub calls_told : Option (List WireCall) → List WireCall
calls_told None = []
calls_told (Some calls) = calls

-- the connections of a record that is told, and none of another
abbrev pub connections_told : Option (List WireCall) → List Connection
connections_told None = []
connections_told (Some calls) = transcript calls

-- the call that a send is by its answer, where one that fails writes at most so many bytes
abbrev pub sent : {T E : Type 0} → ℕ → Result T E → List ℕ → WireCall
sent most (Ok value) piece = Send piece piece true
sent most (Err error) piece = Send piece (take most piece) false

-- What every poll and send of a wire in memory answers and counts: it fails where it is listed,
-- else only where memory was refused, which happens once; then the record is lost.
pub record Answers {T E : Type 0}
    (call : WireCall) (old new : WireState) (result : Result T E) : Type 0 where
  pub listed : IsListed old.calls → IsErr result
  pub only : IsErr result
      → IsListed old.calls ⊎ ((is_some old.recorded ≡ true) × (is_some new.recorded ≡ false))
  pub grows : GrowsBy old.recorded new.recorded (call ∷ [])
  pub stays : OnOk result (is_some new.recorded ≡ is_some old.recorded)
  pub within : new.within ≡ within_after old.within call
  pub counted : new.calls ≡ called old.calls (faults_after result old.calls.faults)
