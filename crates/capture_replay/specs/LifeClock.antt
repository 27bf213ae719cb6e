-- Inside: a clock that says the moments of the lines of a life; no clause of run rests on it.
use Rattle.std.specs.Prelude.{◌≡◌, ℕ, ◌+◌, ◌-◌, ◌^◌, ◌<◌, List}
use Rattle.wires.specs.Clock.{moment_at}

-- After so many asks, as long as their count tells how many they are, these moments are left.
abbrev pub IsAt : (listed : List ℕ) → (asked : ℕ) → (left : List ℕ) → Type 0
IsAt listed asked left = asked < 2 ^ 64 - 1
    → (after : ℕ) → moment_at listed (asked + after) ≡ moment_at left after
