-- Standard: FIX 4.2 and FIXT 1.1, "Message Format": a field is `tag=value`, ended by SOH.
use Rattle.std.specs.Prelude.{ℕ, ◌==◌, List, [], ◌∷◌, ◌++◌, length, drop}
use Rattle.std.specs.Prelude.{Some, None, nat_eq, if◌then◌else◌}
use Rattle.std.specs.declared.option.Option.{Option}
use Rattle.std.specs.List.{starts_with}

-- what a field says that begins with this name
abbrev pub value_at : List ℕ → List ℕ → Option (List ℕ)
value_at name field =
    if starts_with nat_eq field name then Some (drop (length name) field) else None

-- the first answer, where there is one
abbrev pub or_else : Option (List ℕ) → Option (List ℕ) → Option (List ℕ)
or_else (Some value) next = Some value
or_else None next = next

-- what the first whole field with this name says, behind a front of a field
abbrev pub value_behind : List ℕ → List ℕ → List ℕ → Option (List ℕ)
value_behind name front [] = None
value_behind name front (byte ∷ bytes) =
    if byte == 1 then or_else (value_at name front) (value_behind name [] bytes)
    else value_behind name (front ++ byte ∷ []) bytes

-- what the first whole field of these bytes says that has this name, as `58=`
unfoldable pub value_in : List ℕ → List ℕ → Option (List ℕ)
value_in name bytes = value_behind name [] bytes
