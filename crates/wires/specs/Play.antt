-- Inside: a script of which some was played.
use Rattle.std.specs.Prelude.{ℕ, List, ◌∷◌, map, length, drop}
use Rattle.wires.specs.Wire.{Came, Bytes}
use Rattle.wires.specs.Script.{item_of}
use Rattle.wires.specs.declared.script.Script.{Script}

-- without so many bytes of the first item
abbrev pub cut : ℕ → List Came → List Came
cut given (Bytes bytes ∷ rest) = Bytes (drop given bytes) ∷ rest
cut given items = items

-- how many bytes the first item has, where it is of bytes
abbrev pub bytes_ahead : List Came → ℕ
bytes_ahead (Bytes bytes ∷ rest) = length bytes
bytes_ahead items = 0

-- without the first items, and so many bytes of the next
abbrev pub left_of : List Script → ℕ → ℕ → List Came
left_of items next given = cut given (drop next (map item_of items))
