-- Own: what was read of an input; docs/DECISIONS.md, "Commands".
use Rattle.std.specs.Prelude.{◌≡◌, ℕ, ◌+◌, ◌≤◌, List, length, Result, Ok, Err}
use Rattle.std.specs.declared.option.Option.{Option}
use Rattle.std.specs.Io.KnownBytes.{IsAtEnd}
use Rattle.whole_input.specs.declared.reading.TheConstants.{MAX_INPUT}
use Rattle.whole_input.specs.declared.reading.InputError.{InputError}
use Rattle.whole_input.specs.declared.reading.InputError.TheVariants.{Fault, TooLong, NoMemory}

-- What was taken of an input that is read whole, and what is left of it, by the answer: all of it
-- at `Ok`; one byte more than it may have; or some of it, before a fault or for want of memory.
abbrev pub IsWhole : {V : Type 0} → (V → List ℕ) → List ℕ → Option (List ℕ) → Result V InputError
    → Type 0
IsWhole seen taken left (Ok bytes) =
    (seen bytes ≡ taken) × (length taken ≤ MAX_INPUT) × IsAtEnd left
IsWhole seen taken left (Err TooLong) = length taken ≡ MAX_INPUT + 1
IsWhole seen taken left (Err Fault) = length taken ≤ MAX_INPUT
IsWhole seen taken left (Err NoMemory) = length taken ≤ MAX_INPUT
