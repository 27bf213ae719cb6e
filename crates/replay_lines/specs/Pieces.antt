-- Own: the pieces that a record of a wire has written; docs/DEFINITIONS.md, "Lines of a replay".
use Rattle.std.specs.Prelude.{ℕ, List, [], ◌∷◌, ◌++◌, fold}
use Rattle.wires.specs.Wire.{WireCall, Poll, Send, Opened}

-- one piece more of the last connection
abbrev pub add_piece : List ℕ → List (List (List ℕ)) → List (List (List ℕ))
add_piece piece [] = []
add_piece piece (pieces ∷ []) = (pieces ++ piece ∷ []) ∷ []
add_piece piece (pieces ∷ next ∷ rest) = pieces ∷ add_piece piece (next ∷ rest)

-- the pieces of each connection after a call: an opening begins one, a send adds what it wrote
abbrev pub pieces_after : List (List (List ℕ)) → WireCall → List (List (List ℕ))
pieces_after all (Poll Opened) = all ++ [] ∷ []
pieces_after all (Send piece wrote done) = add_piece wrote all
pieces_after all call = all

-- the pieces of each connection of a record, in order
abbrev pub pieces_of : List WireCall → List (List (List ℕ))
pieces_of calls = fold pieces_after [] calls
