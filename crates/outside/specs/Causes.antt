-- Own: when a call on something outside may answer that it failed.
use Rattle.std.specs.Prelude.{◌≡◌, ℕ, ◌+◌, ◌-◌, ◌^◌, ◌≤◌, min, Result, Ok, Err, OnOk, OnErr}

-- one more, up to the last value of 64 bits, where counts stand still
abbrev pub next_count : ℕ → ℕ
next_count count = min (count + 1) (2 ^ 64 - 1)

-- a count is greater than before, or stands at its last value
abbrev pub Rose : ℕ → ℕ → Type 0
Rose before now = next_count before ≤ now

-- a count of faults never falls, stands still at `Ok` and has risen at `Err`
pub record HasCause {T E : Type 0} (before now : ℕ) (result : Result T E) : Type 0 where
  pub later : before ≤ now
  pub still : OnOk result (now ≡ before)
  pub failed : OnErr result (Rose before now)

-- the count of faults after this answer: one more at `Err`
abbrev pub faults_after : {T E : Type 0} → Result T E → ℕ → ℕ
faults_after (Ok value) faults = faults
faults_after (Err error) faults = next_count faults
