-- A wire on which the lines of a life come plays them, call by call.
use Rattle.std.proofs.Common.{◌≡◌, ◌∙◌, ℕ, Bool, true, false, List, ◌∷◌, [], drop}
use Rattle.std.proofs.Common.{◌≤◌, refl, sym, ap, subst, Some, None, IfSome, if◌then◌else◌, arith}
use Rattle.std.specs.Prelude.{Ok, Err}
use Rattle.std.specs.declared.option.Option.{Option}
use Rattle.outside.specs.Causes.{HasCause, next_count}
use Rattle.outside.specs.declared.stream.Failed.{Failed}
use Rattle.wires.specs.Wire.{Came, Nothing, Bytes, Opened, Closed, Broken, WireCall, Poll}
use Rattle.wires.specs.Wire.{is_within, may_come, came_by}
use Rattle.wires.specs.Script.{next_of, rest_of, allowed}
use Rattle.wires.specs.MemWire.{WireState, plays, noted, lost}
use Rattle.wires.specs.declared.wire.Arrival.{Arrival}
use Rattle.wires.specs.declared.wire.TheConstants.{POLL_LEN}
use Rattle.wires.proofs.Playing.{polling}

-- what comes next may come
may_allowed : (within : Bool) (came : Came) → may_come within (allowed within came) ≡ true
may_allowed within came = by (may_come within came) refl
  where
    by : (b : Bool) → may_come within came ≡ b
        → may_come within (if b then came else Nothing) ≡ true
    by true may = may
    by false may = refl

may_next : (within : Bool) (room : ℕ) (script : List Came)
    → may_come within (next_of within room script) ≡ true
may_next within room [] = refl
may_next within room (Bytes bytes ∷ rest) = may_allowed within (Bytes _)
may_next within room (Nothing ∷ rest) = may_allowed within Nothing
may_next within room (Opened ∷ rest) = may_allowed within Opened
may_next within room (Closed ∷ rest) = may_allowed within Closed
may_next within room (Broken ∷ rest) = may_allowed within Broken

pub came_allowed : (told : Option (List WireCall)) (within : Bool) (room : ℕ) (script : List Came)
    (came : Came) → IfSome told (λ calls. within ≡ is_within calls)
    → came ≡ next_of within room script
    → IfSome told (λ r. may_come (is_within r) came ≡ true)
came_allowed None within room script came is next = tt
came_allowed (Some calls) within room script came is next =
    ap (λ w. may_come w came) (sym is) ∙ ap (may_come within) next ∙ may_next within room script

module _ (old new : WireState) (script : List Came)
    (is : IfSome old.recorded (λ calls. old.within ≡ is_within calls)) where
  pub polled : (arrived : Arrival) (buf : List ℕ) (polls : ℕ)
      → came_by arrived buf ≡ next_of old.within POLL_LEN old.script
      → drop 1 old.script ≡ rest_of old.within POLL_LEN old.script
      → new ≡ noted (Poll (came_by arrived buf))
      (record old { script = drop 1 old.script; polls = polls })
      → plays old script → plays new script
  polled arrived buf polls came rest ok played = subst (λ (w : WireState). plays w script) (sym ok)
      (polling {E = Failed} old (noted (Poll (came_by arrived buf)) old) arrived buf (Ok tt) script
      (drop 1 old.script) is came refl tt rest played)

pub lost_on : (old new : WireState) (script : List Came) → new ≡ lost old → plays new script
lost_on old new script is = subst (λ (w : WireState). plays w script) (sym is) tt

-- a call that failed has a cause
pub failing : {T : Type 0} (faults : ℕ) (old new : WireState) (failed : Failed)
    → old.calls.faults ≡ faults
    → new ≡ lost (record old {
      calls = record old.calls { faults = next_count old.calls.faults };
    })
    → old.calls.faults ≤ new.calls.faults
    → HasCause {T = T} faults new.calls.faults (Err failed)
failing {T} faults old new failed same is later =
    subst (λ (n : ℕ). HasCause {T = T} n new.calls.faults (Err failed)) same (record {
      later = later;
      still = tt;
      failed = subst (λ (n : ℕ). n ≤ new.calls.faults)
          (ap (λ (w : WireState). w.calls.faults) is) (omega arith);
    })

pub ruleset playing = (came_allowed, lost_on)
