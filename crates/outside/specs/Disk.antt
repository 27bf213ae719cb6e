-- Own: what the calls of a disk do to its bytes, and what a crash may leave; docs/DEFINITIONS.md,
-- "Disk and journal".
use Rattle.std.specs.Prelude.{◌≡◌, ℕ, ◌+◌, ◌-◌, ◌≤◌, max, min, List, ◌++◌, length, take, drop}
use Rattle.std.specs.Prelude.{IfSome}
use Rattle.std.specs.Prelude.{Result, IfOk}
use Rattle.std.specs.declared.option.Option.{Option}

-- the n bytes from a place on give way to a piece
abbrev pub replaced : ℕ → ℕ → List ℕ → List ℕ → List ℕ
replaced at n piece old = take at old ++ piece ++ drop (at + n) old

-- bytes with a piece written over them from a place on
abbrev pub write : ℕ → List ℕ → List ℕ → List ℕ
write at piece old = replaced at (length piece) piece old

-- after a write of n bytes that a crash cuts short: any bytes in the range and past the old end,
-- any length between the old and the new one, and the same elsewhere
pub record Torn (at n : ℕ) (old new : List ℕ) : Type 0 where
  pub before : take at new ≡ take at old
  pub after : drop (at + n) new ≡ drop (at + n) old
  pub no_shorter : length old ≤ length new
  pub no_longer : length new ≤ max (length old) (at + n)

-- each new image is an old one after a step
abbrev pub Follows : (List ℕ → List ℕ → Type 0) → (List ℕ → Type 0) → (List ℕ → Type 0) → Type 0
Follows step old new = (c : List ℕ) → new c → (d : List ℕ) × old d × step d c

-- each image of the first is one of the second
abbrev pub AreAmong : (List ℕ → Type 0) → (List ℕ → Type 0) → Type 0
AreAmong these those = (c : List ℕ) → these c → those c

-- a crash leaves this and nothing else
abbrev pub Only : List ℕ → (List ℕ → Type 0) → Type 0
Only bytes image = (c : List ℕ) → image c → c ≡ bytes

-- where the disk tells its bytes, a crash now leaves just these
abbrev pub HasOneImage : Option (List ℕ) → (List ℕ → Type 0) → Type 0
HasOneImage told image = IfSome told (λ bytes. Only bytes image)

-- a read at a place gave the bytes that stand from there on, as many as there was room for
abbrev pub ReadsAt : {E : Type 0} → Option (List ℕ) → ℕ → Result ℕ E → List ℕ → Type 0
ReadsAt told at result buf = IfOk result (λ n. IfSome told (λ bytes.
    (n ≡ min (length buf) (length bytes - at)) × (take n buf ≡ take n (drop at bytes))))
