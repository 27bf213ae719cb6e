-- The lines of a piece and of calls, one more at a time.
use Rattle.std.proofs.Common.{◌≡◌, ℕ, suc, ◌+◌, ◌==◌, ◌<◌, Bool, List, [], ◌∷◌, ◌++◌}
use Rattle.std.proofs.Common.{length, take, get_or, map, refl, sym, ◌∙◌, ap, append_assoc}
use Rattle.std.proofs.Common.{append-nil, arith, codes}
use Rattle.std.specs.Prelude.{fold, if◌then◌else◌}
use lib.Dec.{eqb-suc-zero}
use Rattle.std.specs.List.{flat_map}
use Rattle.std.proofs.lemmas.Grind.{flat_map-append}
use Rattle.std.proofs.lemmas.List.{map-append, take_more, length_push}
use Rattle.wires.specs.Wire.{WireCall, Poll, Send, HangUp, Nothing, Opened, Bytes, Closed, Broken}
use Rattle.replay_lines.specs.Pieces.{add_piece, pieces_after, pieces_of}
use Rattle.replay_lines.specs.ReplayLines.{printed, piece_line, numbered, connection_lines}
use Rattle.replay_lines.specs.ReplayLines.{side_lines}

-- one byte more
pub byte_more : (old now : List ℕ) (piece : List ℕ) (i : ℕ) → i < length piece
    → now ≡ old ++ (codes "> " ++ map printed (take i piece))
    → now ++ printed (get_or piece i 0) ∷ []
    ≡ old ++ (codes "> " ++ map printed (take (i + 1) piece))
byte_more old now piece i within is =
    ap (λ (l : List ℕ). l ++ printed (get_or piece i 0) ∷ []) is
    ∙ append_assoc old (codes "> " ++ map printed (take i piece)) (printed (get_or piece i 0) ∷ [])
    ∙ ap (λ (l : List ℕ). old ++ (codes "> " ++ l))
    (sym (map-append printed (take i piece) (get_or piece i 0 ∷ []))
    ∙ ap (λ (l : List ℕ). map printed l) (sym (take_more piece i 0 within)))

-- ---- the lines of calls, one call at a time

-- how many connections there are after a call
abbrev pub opened : ℕ → WireCall → ℕ
opened connections (Poll Opened) = connections + 1
opened connections call = connections

-- the line of a call behind so many connections
abbrev pub call_lines : List ℕ → ℕ → WireCall → List ℕ
call_lines side connections (Poll Opened) = numbered side (connections + 1)
call_lines side connections (Send piece wrote done) =
    if connections == 0 then [] else piece_line wrote
call_lines side connections call = []

-- the lines of calls behind so many connections
abbrev pub lines_from : List ℕ → ℕ → List WireCall → List ℕ
lines_from side connections [] = []
lines_from side connections (call ∷ calls) =
    call_lines side connections call ++ lines_from side (opened connections call) calls

-- ---- their lines

side_opened : (side : List ℕ) (number : ℕ) (all : List (List (List ℕ)))
    → side_lines side number (all ++ [] ∷ [])
    ≡ side_lines side number all ++ numbered side (number + length all)
side_opened side number [] = append-nil (numbered side number ++ [])
    ∙ append-nil (numbered side number) ∙ ap (numbered side) (omega arith)
side_opened side number (pieces ∷ all) =
    ap (λ (l : List ℕ). connection_lines side number pieces ++ l)
    (side_opened side (number + 1) all
    ∙ ap (λ n. side_lines side (number + 1) all ++ numbered side n) (omega arith))
    ∙ sym (append_assoc (connection_lines side number pieces) (side_lines side (number + 1) all)
    (numbered side (number + length (pieces ∷ all))))

connection_longer : (side : List ℕ) (number : ℕ) (pieces : List (List ℕ)) (piece : List ℕ)
    → connection_lines side number (pieces ++ piece ∷ [])
    ≡ connection_lines side number pieces ++ piece_line piece
connection_longer side number pieces piece =
    ap (λ (l : List ℕ). numbered side number ++ l)
    (flat_map-append piece_line pieces (piece ∷ [])
    ∙ ap (λ (l : List ℕ). flat_map piece_line pieces ++ l) (append-nil (piece_line piece)))
    ∙ sym (append_assoc (numbered side number) (flat_map piece_line pieces) (piece_line piece))

side_longer : (side : List ℕ) (number : ℕ) (first : List (List ℕ)) (all : List (List (List ℕ)))
    (piece : List ℕ) → side_lines side number (add_piece piece (first ∷ all))
    ≡ side_lines side number (first ∷ all) ++ piece_line piece
side_longer side number first [] piece =
    append-nil (connection_lines side number (first ++ piece ∷ []))
    ∙ connection_longer side number first piece
    ∙ ap (λ (l : List ℕ). l ++ piece_line piece)
    (sym (append-nil (connection_lines side number first)))
side_longer side number first (next ∷ all) piece =
    ap (λ (l : List ℕ). connection_lines side number first ++ l)
    (side_longer side (number + 1) next all piece)
    ∙ sym (append_assoc (connection_lines side number first)
    (side_lines side (number + 1) (next ∷ all)) (piece_line piece))

side_sent : (side : List ℕ) (all : List (List (List ℕ))) (piece wrote : List ℕ) (done : Bool)
    → side_lines side 1 (add_piece wrote all)
    ≡ side_lines side 1 all ++ call_lines side (length all) (Send piece wrote done)
side_sent side [] piece wrote done = refl
side_sent side (first ∷ all) piece wrote done = side_longer side 1 first all wrote
    ∙ ap (λ (none : Bool). side_lines side 1 (first ∷ all)
    ++ (if none then [] else piece_line wrote)) (sym (eqb-suc-zero (length all)))

side_after : (side : List ℕ) (all : List (List (List ℕ))) (call : WireCall)
    → side_lines side 1 (pieces_after all call)
    ≡ side_lines side 1 all ++ call_lines side (length all) call
side_after side all (Poll Opened) = side_opened side 1 all
    ∙ ap (λ n. side_lines side 1 all ++ numbered side n) (omega arith)
side_after side all (Poll Nothing) = sym (append-nil (side_lines side 1 all))
side_after side all (Poll (Bytes bytes)) = sym (append-nil (side_lines side 1 all))
side_after side all (Poll Closed) = sym (append-nil (side_lines side 1 all))
side_after side all (Poll Broken) = sym (append-nil (side_lines side 1 all))
side_after side all (Send piece wrote done) = side_sent side all piece wrote done
side_after side all HangUp = sym (append-nil (side_lines side 1 all))

longer : (piece : List ℕ) (all : List (List (List ℕ))) → length (add_piece piece all) ≡ length all
longer piece [] = refl
longer piece (one ∷ []) = refl
longer piece (one ∷ next ∷ all) = ap suc (longer piece (next ∷ all))

count_after : (all : List (List (List ℕ))) (call : WireCall)
    → length (pieces_after all call) ≡ opened (length all) call
count_after all (Poll Opened) = let e = length_push all [] in omega (arith, e)
count_after all (Poll Nothing) = refl
count_after all (Poll (Bytes bytes)) = refl
count_after all (Poll Closed) = refl
count_after all (Poll Broken) = refl
count_after all (Send piece wrote done) = longer wrote all
count_after all HangUp = refl

-- the lines of connections and of the calls that are left
all_lines : (side : List ℕ) (all : List (List (List ℕ))) (calls : List WireCall)
    → side_lines side 1 (fold pieces_after all calls)
    ≡ side_lines side 1 all ++ lines_from side (length all) calls
all_lines side all [] = sym (append-nil (side_lines side 1 all))
all_lines side all (call ∷ calls) = all_lines side (pieces_after all call) calls
    ∙ ap (λ (l : List ℕ). l ++ lines_from side (length (pieces_after all call)) calls)
    (side_after side all call)
    ∙ ap (λ n. (side_lines side 1 all ++ call_lines side (length all) call)
    ++ lines_from side n calls) (count_after all call)
    ∙ append_assoc (side_lines side 1 all) (call_lines side (length all) call)
    (lines_from side (opened (length all) call) calls)

pub lines_are : (side : List ℕ) (calls : List WireCall)
    → lines_from side 0 calls ≡ side_lines side 1 (pieces_of calls)
lines_are side calls = sym (all_lines side [] calls)
