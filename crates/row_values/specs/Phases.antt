-- Standard: FIX 4.2 and FIX 5.0 SP2, volume 6: OrdStatus (39). Own: 39=5, an order that was
-- replaced, works on as a new one.
use Rattle.std.specs.Prelude.{ℕ, List, [], ◌∷◌, ◌==◌, if◌then◌else◌}
use Rattle.order_meaning.specs.Report.{Phase, New, Partial, Filled, DoneForDay, Canceled}
use Rattle.order_meaning.specs.Report.{PendingCancel, Stopped, Rejected, Suspended, PendingNew}
use Rattle.order_meaning.specs.Report.{Calculated, Expired, AcceptedForBidding, PendingReplace}

-- OrdStatus (39), each code with the phase of the order
abbrev phases : List (ℕ × Phase)
phases =
    (48, New) ∷  -- 0 New
    (49, Partial) ∷  -- 1 Partially filled
    (50, Filled) ∷  -- 2 Filled
    (51, DoneForDay) ∷  -- 3 Done for day
    (52, Canceled) ∷  -- 4 Canceled
    (53, New) ∷  -- 5 Replaced
    (54, PendingCancel) ∷  -- 6 Pending Cancel
    (55, Stopped) ∷  -- 7 Stopped
    (56, Rejected) ∷  -- 8 Rejected
    (57, Suspended) ∷  -- 9 Suspended
    (65, PendingNew) ∷  -- A Pending New
    (66, Calculated) ∷  -- B Calculated
    (67, Expired) ∷  -- C Expired
    (68, AcceptedForBidding) ∷  -- D Accepted for bidding
    (69, PendingReplace) ∷  -- E Pending Replace
    []

-- no other code stands in a message
abbrev phase_among : List (ℕ × Phase) → ℕ → Phase
phase_among [] code = New
phase_among (phase ∷ phases) code = if phase.0 == code then phase.1 else phase_among phases code

-- the phase of a code
unfoldable pub phase_of : ℕ → Phase
phase_of code = phase_among phases code
