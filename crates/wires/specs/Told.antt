-- Own: what a call adds to a list that an object outside may tell.
use Rattle.std.specs.Prelude.{◌≡◌, List, ◌++◌, ⊤, Some, None}
use Rattle.std.specs.declared.option.Option.{Option}

-- A list that is told grows by these, or is told no more; one that is not told stays so.
abbrev pub GrowsBy : {A : Type 0} → Option (List A) → Option (List A) → List A → Type 0
GrowsBy None new more = new ≡ None
GrowsBy (Some old) None more = ⊤
GrowsBy (Some old) (Some new) more = new ≡ old ++ more

-- what held before holds after
abbrev pub Keeps : {A : Type 0} → (A → Type 0) → (A → Type 0) → Type 0
Keeps {A} old new = (told : A) → old told → new told
