-- What a stream begins with, by what a framer answers that was fed its front.
use Rattle.std.proofs.Common.{◌≡◌, ℕ, ◌+◌, ◌-◌, List, [], ◌∷◌, ◌++◌, take, drop, length, min}
use Rattle.std.proofs.Common.{slice_range, sym, ap, subst, ◌∙◌, arith}
use Rattle.std.specs.Prelude.{Some, None}
use Rattle.std.specs.declared.option.Option.{Option}
use Rattle.std.specs.Option.{option_map}
use Rattle.std.proofs.lemmas.List.{take_min}
use Rattle.frame_grammar.specs.declared.frame.Kind.{Kind}
use Rattle.frame_grammar.specs.declared.frame.Kind.TheVariants.{Fix42, Fix44, Fixt11}
use Rattle.frame_grammar.specs.declared.frame.Garble.{Garble}
use Rattle.frame_grammar.specs.declared.frame.Span.{Span}
use Rattle.frame_grammar.specs.declared.pieces.Next.{Next}
use Rattle.frame_grammar.specs.declared.pieces.Next.TheVariants as next
use Rattle.frame_grammar.specs.declared.pieces.Rest.{Rest}
use Rattle.frame_grammar.specs.declared.pieces.Rest.TheVariants as rest
use Rattle.frame_grammar.specs.declared.buffer.TheConstants.{CAPACITY}
use Rattle.frame_grammar.specs.Held.{Held, fresh}
use Rattle.frame_grammar.specs.Found.{Found, Whole, Short, Broken, found}
use Rattle.frame_grammar.specs.Cut.{Piece, Good, Bad, Cut, piece_at, start_in}
use Rattle.frame_grammar.specs.Framer.{Answers, StandsFor}
use Rattle.frame_grammar.specs.Places.{EndsIn, place_after}
use Rattle.edge_waits.specs.declared.lobby.First.{First}
use Rattle.edge_waits.specs.declared.lobby.First.TheVariants as first
use Rattle.edge_waits.specs.Lobby.{first_by, first_of, first_left}

-- what a piece is
abbrev by_piece : Option Piece → First
by_piece None = first.More
by_piece (Some (Good body bytes)) = first_by body
by_piece (Some (Bad cause bytes)) = first.Garbled cause

-- a garbled piece has the cause of its front, wherever it ends
by_end : (cause : Garble) (stream : List ℕ) (end : Option ℕ) (p : Piece)
    → option_map (λ k. Bad cause (take (k + 1) stream)) end ≡ Some p
    → first.Garbled cause ≡ by_piece (Some p)
by_end cause stream None p is = absurd cc
by_end cause stream (Some k) p is = ap by_piece is

-- a stream begins with what its first piece is, once that has come
by_found : (f : Found) (stream : List ℕ) (p : Piece) → piece_at f stream ≡ Some p
    → first_of f ≡ by_piece (Some p)
by_found (Whole body after) stream p is = ap by_piece is
by_found Short stream p is = absurd cc
by_found (Broken cause after) stream p is = by_end cause stream (start_in (drop 1 stream)) p is

-- nothing is the front of a message
of_nothing : (k : Kind) (bytes : List ℕ) → bytes ≡ [] → first.More ≡ first_of (found k bytes)
of_nothing Fix42 bytes none = sym (ap (λ s. first_of (found Fix42 s)) none)
of_nothing Fix44 bytes none = sym (ap (λ s. first_of (found Fix44 s)) none)
of_nothing Fixt11 bytes none = sym (ap (λ s. first_of (found Fixt11 s)) none)

-- a stream of which no piece has come whole
by_rest : (r : Rest) (k : Kind) (place : ℕ) (bytes : List ℕ) → EndsIn r k place bytes
    → first_left r ≡ first_of (found k bytes)
by_rest rest.Clean k place bytes e = of_nothing k bytes e
by_rest (rest.Inside at len) k place bytes e = sym (ap first_of e.1)
by_rest (rest.Garbled at len cause) k place bytes e = sym (ap first_of e.0.1)

frame_first : (held : Held) (bytes body : List ℕ) (at len : ℕ) (part : Span)
    → Answers (next.Frame at len part) held bytes []
    → body ≡ slice_range held.read part.start (part.start + part.len)
    → first_by body ≡ first_of (found held.kind bytes)
frame_first held bytes body at len part a same =
    ap first_by (same ∙ a.5)
    ∙ sym (by_found (found held.kind bytes) bytes (Good a.0 a.1) a.2.come.0)

garbled_first : (held : Held) (bytes : List ℕ) (at len : ℕ) (cause : Garble)
    → Answers (next.Garbled at len cause) held bytes []
    → first.Garbled cause ≡ first_of (found held.kind bytes)
garbled_first held bytes at len cause a =
    sym (by_found (found held.kind bytes) bytes (Bad cause a.0) a.1.come.0)

-- how the stream ends, for each stream and list that the framer stands for
abbrev pub Finished : Rest → Held → Type 0
Finished r held = (stream left : List ℕ) (answered : List Piece) → StandsFor held stream answered
    → Cut held.kind stream answered left → EndsIn r held.kind (place_after answered) left

more_first : (held : Held) (bytes : List ℕ) (r : Rest) → Answers next.More held bytes []
    → Finished r held → first_left r ≡ first_of (found held.kind bytes)
more_first held bytes r a ends =
    by_rest r held.kind (place_after []) a.1.0 (ends bytes a.1.0 [] a.0 a.1.1)
    ∙ sym (ap (λ s. first_of (found held.kind s)) a.1.1.0)

-- what an empty framer takes is the front that it has room for
pub all_fed : (bytes : List ℕ) (n : ℕ) (held : Held) (k : Kind) → held ≡ fresh k
    → n ≡ min (length bytes) (CAPACITY - length held.unread)
    → take n bytes ≡ take CAPACITY bytes
all_fed bytes n held k empty count =
    let room : n ≡ min (length bytes) CAPACITY =
    count ∙ ap (λ h. min (length bytes) (CAPACITY - length h.unread)) empty in
    let swapped : min (length bytes) CAPACITY ≡ min CAPACITY (length bytes) = omega arith in
    ap (λ m. take m bytes) (room ∙ swapped) ∙ take_min CAPACITY bytes

-- the same by the answer of the call
at_kind : (held : Held) (k : Kind) (bytes : List ℕ) → held.kind ≡ k
    → first_of (found held.kind bytes) ≡ first_of (found k bytes)
at_kind held k bytes is = ap (λ x. first_of (found x bytes)) is

pub told_frame : (held : Held) (k : Kind) (bytes taken body : List ℕ) (result : Next)
    (at len : ℕ) (part : Span) → taken ≡ bytes → held.kind ≡ k → Answers result held taken []
    → result ≡ next.Frame at len part
    → body ≡ slice_range held.read part.start (part.start + part.len)
    → first_by body ≡ first_of (found k bytes)
told_frame held k bytes taken body result at len part all is a which same =
    let P : List ℕ → Type 0 = λ s. Answers result held s [] in
    let Q : Next → Type 0 = λ n. Answers n held bytes [] in
    frame_first held bytes body at len part (subst Q which (subst P all a)) same
    ∙ at_kind held k bytes is

pub told_garbled : (held : Held) (k : Kind) (bytes taken : List ℕ) (result : Next)
    (at len : ℕ) (cause : Garble) → taken ≡ bytes → held.kind ≡ k
    → Answers result held taken [] → result ≡ next.Garbled at len cause
    → first.Garbled cause ≡ first_of (found k bytes)
told_garbled held k bytes taken result at len cause all is a which =
    let P : List ℕ → Type 0 = λ s. Answers result held s [] in
    let Q : Next → Type 0 = λ n. Answers n held bytes [] in
    garbled_first held bytes at len cause (subst Q which (subst P all a))
    ∙ at_kind held k bytes is

pub told_more : (held : Held) (k : Kind) (bytes taken : List ℕ) (result : Next) (r : Rest)
    → taken ≡ bytes → held.kind ≡ k → Answers result held taken [] → result ≡ next.More
    → Finished r held → first_left r ≡ first_of (found k bytes)
told_more held k bytes taken result r all is a which ends =
    let P : List ℕ → Type 0 = λ s. Answers result held s [] in
    let Q : Next → Type 0 = λ n. Answers n held bytes [] in
    more_first held bytes r (subst Q which (subst P all a)) ends ∙ at_kind held k bytes is
