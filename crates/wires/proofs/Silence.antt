-- A wire on which nothing comes is never within a connection.
use Rattle.std.proofs.Common.{◌≡◌, ℕ, ◌-◌, ◌^◌, ◌==◌, zero, suc, Bool, true, false, List}
use Rattle.std.proofs.Common.{replicate, refl, sym}
use Rattle.std.proofs.lemmas.List.{append-nil}
use Rattle.std.proofs.lemmas.Bool.{both_ways}
use Rattle.std.specs.Prelude.{Some, None, if◌then◌else◌}
use Rattle.std.specs.Option.{ForSome}
use Rattle.std.specs.declared.option.Option.{Option}
use Rattle.wires.specs.Told.{GrowsBy}
use Rattle.wires.specs.Wire.{WireCall, Poll, Nothing, is_within, HangUpGrows}
use Rattle.wires.specs.Quiet.{quiet}

between : (polls : ℕ) → is_within (replicate polls (Poll Nothing)) ≡ false
between zero = refl
between (suc polls) = between polls

-- the record, by whether the count is at its last value
abbrev silence : Bool → ℕ → Option (List WireCall)
silence full polls = if full then None else Some (replicate polls (Poll Nothing))

no_send : (full : Bool) (polls : ℕ) (more : List WireCall)
    → ForSome (silence full polls) (λ r. is_within r ≡ true)
    → GrowsBy (silence full polls) (silence full polls) more
no_send true polls more inside = refl
no_send false polls more inside =
    absurd (both_ways (is_within (replicate polls (Poll Nothing))) (between polls) (inside _ refl))

pub never_sent : (polls : ℕ) (more : List WireCall)
    → ForSome (quiet polls) (λ r. is_within r ≡ true) → GrowsBy (quiet polls) (quiet polls) more
never_sent polls more inside = no_send (polls == 2 ^ 64 - 1) polls more inside

no_hang_up : (full : Bool) (polls : ℕ) → HangUpGrows (silence full polls) (silence full polls)
no_hang_up true polls = refl
no_hang_up false polls = rw (between polls) (sym (append-nil (replicate polls (Poll Nothing))))

pub stays_quiet : (polls : ℕ) → HangUpGrows (quiet polls) (quiet polls)
stays_quiet polls = no_hang_up (polls == 2 ^ 64 - 1) polls
