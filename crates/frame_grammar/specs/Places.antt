-- Own: where the pieces of a stream begin, and how a stream ends if nothing follows.
use Rattle.std.specs.Prelude.{◌≡◌, ◌≢◌, ℕ, ◌-◌, ◌^◌, List, [], length, min}
use Rattle.std.specs.List.{flat_map}
use Rattle.frame_grammar.specs.declared.frame.Kind.{Kind}
use Rattle.frame_grammar.specs.declared.pieces.Rest.{Rest}
use Rattle.frame_grammar.specs.declared.pieces.Rest.TheVariants as rest
use Rattle.frame_grammar.specs.Found.{Short, Broken, found}
use Rattle.frame_grammar.specs.Cut.{Piece, bytes_of}

-- a place or a length, of which 2^64 - 1 is the last that is counted
abbrev pub capped : ℕ → ℕ
capped n = min n (2 ^ 64 - 1)

-- where the piece after these begins
abbrev pub place_after : List Piece → ℕ
place_after pieces = capped (length (flat_map bytes_of pieces))

-- How a stream ends whose last bytes, from this place on, are no whole piece: there are none; or
-- they are the front of a frame; or they begin with a garbled piece.
abbrev pub EndsIn : Rest → Kind → ℕ → List ℕ → Type 0
EndsIn rest.Clean kind place bytes = bytes ≡ []
EndsIn (rest.Inside at len) kind place bytes = (bytes ≢ []) × (found kind bytes ≡ Short)
    × (at ≡ place) × (len ≡ length bytes)
EndsIn (rest.Garbled at len cause) kind place bytes = ((after : List ℕ)
    × (found kind bytes ≡ Broken cause after))
    × (at ≡ place) × (len ≡ capped (length bytes))
