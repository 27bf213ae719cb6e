-- Own: what a put does to the bytes of a sink, where they are told, and when a source has ended.
use Rattle.std.specs.Prelude.{◌≡◌, ℕ, List, length, take, Bool, false, ◌==◌, ◌&&◌, nat_lt, Result}
use Rattle.std.specs.Prelude.{MatchResult}
use Rattle.std.specs.declared.option.Option.{Option}
use Rattle.std.specs.Io.KnownBytes.{Appends}

-- some front of the piece is appended
abbrev pub AppendsFront : Option (List ℕ) → Option (List ℕ) → List ℕ → Type 0
AppendsFront old new piece = (n : ℕ) × Appends old new (take n piece)

-- a put appends the whole piece at `Ok`, and a front of it at `Err`
abbrev pub PutAppends : {T E : Type 0}
    → Option (List ℕ) → Option (List ℕ) → Result T E → List ℕ → Type 0
PutAppends old new result piece =
    MatchResult result (λ _. Appends old new piece) (λ _. AppendsFront old new piece)

-- after a read a source has ended exactly where it gave no byte and there was room for one
abbrev pub TellsEnd : {E : Type 0} → Result ℕ E → List ℕ → Bool → Type 0
TellsEnd result buf ended =
    MatchResult result (λ count. ended ≡ (count == 0 && nat_lt 0 (length buf))) (λ _. ended ≡ false)
