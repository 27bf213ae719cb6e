-- Own: the moments of a clock, and those of a list; docs/DEFINITIONS.md, "Wires and clocks".
use Rattle.std.specs.Prelude.{ℕ, ◌-◌, ◌^◌, zero, suc, ◌==◌, if◌then◌else◌, List, [], ◌∷◌, ◌++◌}
use Rattle.std.specs.Prelude.{Some, None}
use Rattle.std.specs.declared.option.Option.{Option}

-- what contracts see of a clock of listed moments
pub record ClockState : Type 0 where
  pub listed : List ℕ
  -- how often it was asked, up to 2^64 - 1
  pub asked : ℕ

-- the moment after so many: the listed ones, then the last again, and 0 where none is listed
abbrev pub moment_at : List ℕ → ℕ → ℕ
moment_at [] after = 0
moment_at (moment ∷ []) after = moment
moment_at (moment ∷ next ∷ rest) zero = moment
moment_at (moment ∷ next ∷ rest) (suc after) = moment_at (next ∷ rest) after

-- the first so many moments
abbrev pub moments_given : List ℕ → ℕ → List ℕ
moments_given listed zero = []
moments_given listed (suc count) = moments_given listed count ++ moment_at listed count ∷ []

-- they are told as long as the count of asks tells how many they are
abbrev pub moments_told : ClockState → Option (List ℕ)
moments_told clock =
    if clock.asked == 2 ^ 64 - 1 then None else Some (moments_given clock.listed clock.asked)
