-- Inside: lines of which some are put, and some wait behind what waited before.
use Rattle.std.specs.Prelude.{◌≡◌, ℕ, List, ◌++◌, Result, MatchResult}
use Rattle.std.specs.declared.option.Option.{Option}
use Rattle.std.specs.Io.KnownBytes.{Appends}
use Rattle.outside.specs.Bytes.{AppendsFront}

-- At `Ok` what was put and what waits now is what waited before with these lines; at `Err` a front
-- of that was put.
abbrev pub Prints : {T E : Type 0} → (old new : Option (List ℕ)) → (before after : List ℕ)
    → Result T E → List ℕ → Type 0
Prints old new before after result lines = MatchResult result
    (λ _. (put : List ℕ) × Appends old new put × (put ++ after ≡ before ++ lines))
    (λ _. AppendsFront old new (before ++ lines))
