-- Own: how the edge knows that the venue has answered a Logon; docs/DECISIONS.md, "The edge".
use Rattle.std.specs.Prelude.{◌≡◌, ℕ, ◌+◌, ◌==◌, if◌then◌else◌, List, [], ◌∷◌, ◌++◌, codes}
use Rattle.std.specs.Prelude.{slice_index, fold}

-- what every Logon has behind its body length: its type, between two SOH
abbrev pub logon_field : List ℕ
logon_field = 1 ∷ codes "35=A" ++ 1 ∷ []

-- bytes stand somewhere within others
abbrev pub StandsIn : List ℕ → List ℕ → Type 0
StandsIn bytes all = (before : List ℕ) × (behind : List ℕ) × (all ≡ before ++ bytes ++ behind)

-- the device: how much of the field the bytes end with, one byte later; all of it stays found
abbrev pub found_next : ℕ → ℕ → ℕ
found_next found byte =
    if found == 6 then 6
    else (if byte == slice_index logon_field found then found + 1 else (if byte == 1 then 1 else 0))

abbrev pub found_in : List ℕ → ℕ
found_in bytes = fold found_next 0 bytes
