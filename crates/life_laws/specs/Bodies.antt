-- Own: the frames of a stream as a list; docs/DEFINITIONS.md, "A life".
use Rattle.std.specs.Prelude.{ℕ, suc, zero, List, [], ◌∷◌, length, drop, Some, None}
use Rattle.std.specs.List.{flat_map, filter_map}
use Rattle.std.specs.Option.{option_map_or}
use Rattle.std.specs.declared.option.Option.{Option}
use Rattle.frame_grammar.specs.declared.frame.Kind.{Kind}
use Rattle.frame_grammar.specs.Cut.{Piece, Good, Bad, bytes_of, first_piece}
use Rattle.order_meaning.specs.declared.Side.{Side}
use Rattle.wires.specs.Wire.{Connection}
use Rattle.session_frames.specs.Frames.{kind_of}

-- the pieces at the front of a stream, at most so many
abbrev pub pieces_within : ℕ → Kind → List ℕ → List Piece
pieces_within zero kind stream = []
pieces_within (suc n) kind stream =
    option_map_or (λ piece. piece ∷ pieces_within n kind (drop (length (bytes_of piece)) stream))
    (first_piece kind stream) []

-- all of them, since each has a byte
abbrev pub pieces_of : Kind → List ℕ → List Piece
pieces_of kind stream = pieces_within (length stream) kind stream

abbrev pub body_of : Piece → Option (List ℕ)
body_of (Good body bytes) = Some body
body_of (Bad cause bytes) = None

-- the bodies of the frames in a stream
abbrev pub bodies_of : Kind → List ℕ → List (List ℕ)
bodies_of kind stream = filter_map body_of (pieces_of kind stream)

-- and in what was read on each connection of a side
abbrev pub bodies_read : Side → List Connection → List (List ℕ)
bodies_read side connections =
    flat_map (λ connection. bodies_of (kind_of side) connection.read) connections
