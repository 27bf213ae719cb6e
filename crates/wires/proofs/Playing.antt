-- A record that plays a script, and one call more.
use Rattle.std.proofs.Common.{◌≡◌, ℕ, Bool, true, false, List, [], ◌∷◌, ◌++◌, refl, sym, subst}
use Rattle.std.specs.Option.{option_map}
use Rattle.std.specs.Prelude.{fold, ⊤, if◌then◌else◌, Some, None, IfSome, Result, Ok, Err, OnOk}
use Rattle.std.specs.Prelude.{OnErr}
use Rattle.std.specs.declared.option.Option.{Option}
use Rattle.outside.specs.declared.stream.Failed.{Failed}
use Rattle.wires.specs.Wire.{Came, Nothing, Opened, Bytes, Closed, Broken}
use Rattle.wires.specs.Told.{Keeps}
use Rattle.wires.specs.Wire.{WireCall, Poll, Send, HangUp, within_after, is_within, came_by}
use Rattle.wires.specs.Wire.{came_of}
use Rattle.wires.specs.MemWire.{WireState, PlaysTo, plays, noted, lost, hung_up}
use Rattle.wires.specs.Script.{next_of, rest_of, Takes, Plays}
use Rattle.wires.specs.declared.wire.Arrival.{Arrival}
use Rattle.wires.specs.declared.wire.Arrival.TheVariants as arrival
use Rattle.wires.specs.declared.wire.TheConstants.{POLL_LEN}

pub plays_more : (within : Bool) (script : List Came) (calls : List WireCall) (call : WireCall)
    (between left : List Came) → Plays within script calls between
    → Takes (fold within_after within calls) call between left
    → Plays within script (calls ++ call ∷ []) left
plays_more within script [] call between left played takes =
    (left, subst (λ s. Takes within call s left) played takes, refl)
plays_more within script (first ∷ calls) call between left played takes = (
  played.0,
  played.1,
  plays_more (within_after within first) played.0 calls call between left
      played.2 takes,
)

-- what a poll that did not fail takes
pub takes_poll : (within : Bool) (arrived : Arrival) (buf : List ℕ) (script left : List Came)
    → came_by arrived buf ≡ next_of within POLL_LEN script
    → left ≡ rest_of within POLL_LEN script
    → Takes within (Poll (came_by arrived buf)) script left
takes_poll within arrival.Nothing buf script left came rest = (came, rest)
takes_poll within arrival.Opened buf script left came rest = (came, rest)
takes_poll within (arrival.Bytes n) buf script left came rest = (came, rest)
takes_poll within arrival.Closed buf script left came rest = (came, rest)

-- a wire on which a call is noted, or memory was refused for that
one_noted : (told : Option (List WireCall)) (within : Bool) (call : WireCall)
    (script between left : List Came) → IfSome told (λ calls. within ≡ is_within calls)
    → IfSome told (λ calls. Plays false script calls between) → Takes within call between left
    → IfSome (option_map (λ calls. calls ++ call ∷ []) told)
    (λ calls. Plays false script calls left)
one_noted None within call script between left is played takes = tt
one_noted (Some calls) within call script between left is played takes =
    plays_more false script calls call between left played
    (subst (λ w. Takes w call between left) is takes)

-- a call that takes nothing of the script was noted, or memory was refused for that
pub noting : {E : Type 0} (wire next : WireState) (call : WireCall) (result : Result ⊤ E)
    (script : List Came) → IfSome wire.recorded (λ calls. wire.within ≡ is_within calls)
    → OnOk result (next ≡ noted call wire) → OnErr result (next ≡ lost wire)
    → Takes wire.within call wire.script wire.script → plays wire script → plays next script
noting wire next call (Ok value) script is ok err takes played =
    subst (λ (w : WireState). plays w script) (sym ok)
    (one_noted wire.recorded wire.within call script wire.script wire.script is played takes)
noting wire next call (Err error) script is ok err takes played =
    subst (λ (w : WireState). plays w script) (sym err) tt

-- a poll that did not fail was noted, or memory was refused for that; and the script went on
pub polling : {E : Type 0} (wire next : WireState) (arrived : Arrival) (buf : List ℕ)
    (result : Result ⊤ E) (script left : List Came)
    → IfSome wire.recorded (λ calls. wire.within ≡ is_within calls)
    → came_by arrived buf ≡ next_of wire.within POLL_LEN wire.script
    → OnOk result (next ≡ noted (Poll (came_by arrived buf)) wire)
    → OnErr result (next ≡ lost wire) → left ≡ rest_of wire.within POLL_LEN next.script
    → plays wire script → PlaysTo next script left
polling wire next arrived buf (Ok value) script left is came ok err rest played =
    subst (λ (w : WireState). PlaysTo w script left) (sym ok)
    (one_noted wire.recorded wire.within (Poll (came_by arrived buf)) script wire.script left is
    played (takes_poll wire.within arrived buf wire.script left came
    (subst (λ (w : WireState). left ≡ rest_of wire.within POLL_LEN w.script) ok rest)))
polling wire next arrived buf (Err error) script left is came ok err rest played =
    subst (λ (w : WireState). PlaysTo w script left) (sym err) tt

pub hanging_up : (wire : WireState) (script : List Came)
    → IfSome wire.recorded (λ calls. wire.within ≡ is_within calls)
    → plays wire script → plays (hung_up wire) script
hanging_up wire script is played = hung wire.within is
  where
    hung : (within : Bool) → IfSome wire.recorded (λ calls. within ≡ is_within calls)
        → plays (if within then noted HangUp wire else wire) script
    hung true inside =
        one_noted wire.recorded true HangUp script wire.script wire.script inside played refl
    hung false outside = played
