-- Standard: FIX 4.2 and FIXT 1.1, "Data Integrity": a garbled message is ignored, and reading goes
-- on at the next BeginString. That this is the next `8=FIX` is the gateway's own;
-- docs/DECISIONS.md, "Frames".
--
-- The pieces of a stream, as whole texts and with no buffer: frames, and what is garbled between
-- them.
use Rattle.std.specs.Prelude.{◌≡◌, ℕ, ◌+◌, ◌-◌, suc, nat_eq, if◌then◌else◌, List, [], ◌∷◌, length}
use Rattle.std.specs.Prelude.{take, drop, codes}
use Rattle.std.specs.Prelude.{Some, None}
use Rattle.std.specs.List.{starts_with}
use Rattle.std.specs.Option.{option_map}
use Rattle.std.specs.declared.option.Option.{Option}
use Rattle.frame_grammar.specs.declared.frame.Kind.{Kind}
use Rattle.frame_grammar.specs.declared.frame.Garble.{Garble}
use Rattle.frame_grammar.specs.Found.{Found, Whole, Short, Broken, found}

-- a piece of a stream: a frame with its body, or garbled bytes with their cause
pub data Piece : Type 0 where
  Good : (body bytes : List ℕ) → Piece
  Bad : (cause : Garble) (bytes : List ℕ) → Piece

abbrev pub bytes_of : Piece → List ℕ
bytes_of (Good body bytes) = bytes
bytes_of (Bad cause bytes) = bytes

-- the first place where `8=FIX` stands
abbrev pub start_in : List ℕ → Option ℕ
start_in [] = None
start_in (b ∷ bytes) =
    if starts_with nat_eq (b ∷ bytes) (codes "8=FIX") then Some 0
    else option_map suc (start_in bytes)

-- A garbled piece runs to the next place, past its own start, where `8=FIX` stands.
abbrev pub garbled : Garble → List ℕ → Option Piece
garbled cause stream = option_map (λ k. Bad cause (take (k + 1) stream)) (start_in (drop 1 stream))

abbrev pub piece_at : Found → List ℕ → Option Piece
piece_at (Whole body after) stream = Some (Good body (take (length stream - length after) stream))
piece_at Short stream = None
piece_at (Broken cause after) stream = garbled cause stream

-- the first piece of a stream, once all of it has come
abbrev pub first_piece : Kind → List ℕ → Option Piece
first_piece kind stream = piece_at (found kind stream) stream

-- these pieces come first in the stream, and `left` follows them
abbrev pub ComeFirst : Kind → List ℕ → List Piece → List ℕ → Type 0
ComeFirst kind stream [] left = stream ≡ left
ComeFirst kind stream (piece ∷ pieces) left =
    (first_piece kind stream ≡ Some piece)
    × ComeFirst kind (drop (length (bytes_of piece)) stream) pieces left

-- the stream is these pieces, and then a rest of which no piece has come whole
abbrev pub Cut : Kind → List ℕ → List Piece → List ℕ → Type 0
Cut kind stream pieces rest = ComeFirst kind stream pieces rest × (first_piece kind rest ≡ None)
