-- Inside: the stream and the answered pieces that a framer stands for, and what it answers for each
-- such stream and list; no clause of run rests on it.
use Rattle.std.specs.Prelude.{◌≡◌, ℕ, ◌+◌, ◌<◌, ◌≤◌, List, [], ◌∷◌, ◌++◌, length, drop}
use Rattle.std.specs.Prelude.{slice_range, Some, None}
use Rattle.std.specs.declared.option.Option.{Option}
use Rattle.std.specs.List.{flat_map}
use Rattle.frame_grammar.specs.declared.frame.Kind.{Kind}
use Rattle.frame_grammar.specs.declared.frame.Garble.{Garble}
use Rattle.frame_grammar.specs.declared.pieces.Lost.{Lost}
use Rattle.frame_grammar.specs.declared.pieces.Next.{Next}
use Rattle.frame_grammar.specs.declared.pieces.Next.TheVariants as next
use Rattle.frame_grammar.specs.Found.{Broken, found}
use Rattle.frame_grammar.specs.Cut.{start_in, Piece, Good, Bad, bytes_of, ComeFirst, Cut}
use Rattle.frame_grammar.specs.Held.{Held}
use Rattle.frame_grammar.specs.Places.{capped, place_after}

-- Whatever is added to them, these bytes begin with a garbled piece of this cause, which does not
-- end inside the first n.
abbrev pub IsLost : Kind → Garble → ℕ → List ℕ → Type 0
IsLost kind cause n bytes = (added : List ℕ) → (after : List ℕ)
    × (found kind (bytes ++ added) ≡ Broken cause after)
    × ((k : ℕ) → start_in (drop 1 (bytes ++ added)) ≡ Some k → n ≤ k + 1)

-- The places that a framer keeps, where `before` bytes were answered: nothing was dropped, and the
-- unread bytes follow. Or these bytes were dropped, and are the front of a garbled piece that the
-- unread bytes go on with.
abbrev pub KeepsPlaces : Option Lost → Held → ℕ → List ℕ → Type 0
KeepsPlaces None held before dropped = (dropped ≡ []) × (held.at ≡ capped before)
KeepsPlaces (Some lost) held before dropped = (0 < length dropped)
    × (lost.at ≡ capped before) × (lost.dropped ≡ capped (length dropped))
    × (held.at ≡ capped (before + length dropped))
    × IsLost held.kind lost.cause (length dropped) (dropped ++ held.unread)

-- The framer has taken this stream and answered these pieces: they come first in the stream, and
-- the unread bytes follow them, but for the dropped front of a garbled piece.
pub record StandsFor (held : Held) (stream : List ℕ) (answered : List Piece) : Type 0 where
  pub dropped : List ℕ
  pub come : ComeFirst held.kind stream answered (dropped ++ held.unread)
  pub places : KeepsPlaces held.lost held (length (flat_map bytes_of answered)) dropped

-- What `next` answers and leaves. A frame is the next piece, its body in the part of what was read;
-- or a garbled piece is. More bytes are needed just where every piece that has come was answered.
abbrev pub Answers : Next → Held → List ℕ → List Piece → Type 0
Answers (next.Frame at len part) new stream answered = (body bytes : List ℕ)
    × StandsFor new stream (answered ++ Good body bytes ∷ [])
    × (at ≡ place_after answered) × (len ≡ length bytes)
    × (slice_range new.read part.start (part.start + part.len) ≡ body)
Answers (next.Garbled at len cause) new stream answered = (bytes : List ℕ)
    × StandsFor new stream (answered ++ Bad cause bytes ∷ [])
    × (at ≡ place_after answered) × (len ≡ capped (length bytes))
Answers next.More new stream answered = StandsFor new stream answered × ((rest : List ℕ)
    × Cut new.kind stream answered rest)

-- The part of a frame that was answered lies in what was read.
abbrev pub HoldsPart : Next → Held → Type 0
HoldsPart (next.Frame at len part) held = part.start + part.len ≤ length held.read
HoldsPart (next.Garbled at len cause) held = Unit {0}
HoldsPart next.More held = Unit {0}
