-- The pieces of a record, joined, are what its transcript has as written.
use Rattle.std.proofs.Common.{◌≡◌, ℕ, List, [], ◌∷◌, ◌++◌, map, fold, refl, sym, ◌∙◌, ap}
use Rattle.std.proofs.Common.{append-nil}
use Rattle.std.specs.List.{concat}
use Rattle.std.proofs.lemmas.List.{map-append}
use Rattle.std.proofs.lemmas.List.Folds.{concat-append}
use Rattle.wires.specs.Wire.{Connection, WireCall, Poll, Send, HangUp, Nothing, Opened, Bytes}
use Rattle.wires.specs.Wire.{Closed, Broken, add_read, add_written, change_last}
use Rattle.wires.specs.Wire.{connections_after, transcript}
use Rattle.replay_lines.specs.Pieces.{add_piece, pieces_after, pieces_of}

abbrev Texts : Type 0
Texts = List (List ℕ)

abbrev written : Connection → List ℕ
written connection = connection.written

-- the same was written on each connection
abbrev Same : List Texts → List Connection → Type 0
Same all connections = map concat all ≡ map written connections

reads_keep : (bytes : List ℕ) (connections : List Connection)
    → map written (change_last (add_read bytes) connections) ≡ map written connections
reads_keep bytes [] = refl
reads_keep bytes (c ∷ []) = refl
reads_keep bytes (c ∷ d ∷ rest) =
    ap (λ (ls : Texts). c.written ∷ ls) (reads_keep bytes (d ∷ rest))

same_head : (x y : List ℕ) (xs ys : Texts) → x ∷ xs ≡ y ∷ ys → (x ≡ y) × (xs ≡ ys)
same_head x y xs ys is = (cc is, cc is)

piece_joins : (pieces : Texts) (piece : List ℕ)
    → concat (pieces ++ piece ∷ []) ≡ concat pieces ++ piece
piece_joins pieces piece = concat-append pieces (piece ∷ [])
    ∙ ap (λ (l : List ℕ). concat pieces ++ l) (append-nil piece)

piece_adds : (piece : List ℕ) (all : List Texts) (connections : List Connection)
    → Same all connections
    → Same (add_piece piece all) (change_last (add_written piece) connections)
piece_adds piece [] [] is = refl
piece_adds piece [] (c ∷ connections) is = absurd (cc is)
piece_adds piece (p ∷ all) [] is = absurd (cc is)
piece_adds piece (p ∷ []) (c ∷ []) is =
    ap (λ (l : List ℕ). l ∷ []) (piece_joins p piece
    ∙ ap (λ (l : List ℕ). l ++ piece) (same_head (concat p) c.written [] [] is).0)
piece_adds piece (p ∷ []) (c ∷ d ∷ connections) is =
    absurd (cc (same_head (concat p) c.written [] (map written (d ∷ connections)) is).1)
piece_adds piece (p ∷ q ∷ all) (c ∷ []) is =
    absurd (cc (same_head (concat p) c.written (map concat (q ∷ all)) [] is).1)
piece_adds piece (p ∷ q ∷ all) (c ∷ d ∷ connections) is = λ i.
    both.0 i ∷ piece_adds piece (q ∷ all) (d ∷ connections) both.1 i
  where
    both : (concat p ≡ c.written)
        × (map concat (q ∷ all) ≡ map written (d ∷ connections))
    both = same_head (concat p) c.written (map concat (q ∷ all))
        (map written (d ∷ connections)) is

call_keeps : (call : WireCall) (all : List Texts) (connections : List Connection)
    → Same all connections
    → Same (pieces_after all call) (connections_after connections call)
call_keeps (Poll Nothing) all connections is = is
call_keeps (Poll Opened) all connections is =
    map-append concat all ([] ∷ [])
    ∙ ap (λ (ls : Texts). ls ++ [] ∷ []) is
    ∙ sym (map-append written connections (record { read = []; written = [] } ∷ []))
call_keeps (Poll (Bytes bytes)) all connections is = is ∙ sym (reads_keep bytes connections)
call_keeps (Poll Closed) all connections is = is
call_keeps (Poll Broken) all connections is = is
call_keeps (Send piece wrote done) all connections is = piece_adds wrote all connections is
call_keeps HangUp all connections is = is

calls_keep : (calls : List WireCall) (all : List Texts) (connections : List Connection)
    → Same all connections
    → Same (fold pieces_after all calls) (fold connections_after connections calls)
calls_keep [] all connections is = is
calls_keep (call ∷ calls) all connections is =
    calls_keep calls (pieces_after all call) (connections_after connections call)
    (call_keeps call all connections is)

pub pieces_written : (calls : List WireCall)
    → map concat (pieces_of calls) ≡ map (λ (c : Connection). c.written) (transcript calls)
pieces_written calls = calls_keep calls [] [] refl
