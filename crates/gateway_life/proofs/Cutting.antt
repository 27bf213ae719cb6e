-- The bodies of a stream, by its pieces.
use Rattle.std.proofs.Common.{◌≡◌, ℕ, zero, suc, ◌+◌, ◌-◌, ◌≤◌, List, [], ◌∷◌, ◌++◌, length, take}
use Rattle.std.proofs.Common.{drop, refl, sym, ◌∙◌, ap, subst, arith, length-append}
use Rattle.std.proofs.Common.{Some, None}
use Rattle.std.specs.List.{filter_map}
use Rattle.std.specs.Option.{option_map, option_map_or}
use Rattle.std.specs.declared.option.Option.{Option}
use Rattle.std.proofs.lemmas.List.{length-drop, length-take}
use Rattle.std.proofs.lemmas.List.Elements.{filter_map-append}
use Rattle.frame_grammar.specs.declared.frame.Kind.{Kind}
use Rattle.frame_grammar.specs.declared.frame.Kind.TheVariants.{Fix42, Fix44, Fixt11}
use Rattle.frame_grammar.specs.declared.frame.Garble.{Garble}
use Rattle.frame_grammar.specs.Frame.{IsFrame, IsBody, front, trailer}
use Rattle.frame_grammar.specs.Found.{Found, Whole, Short, Broken, found}
use Rattle.frame_grammar.specs.Cut.{Piece, Good, Bad, bytes_of, start_in, piece_at, first_piece}
use Rattle.frame_grammar.specs.Cut.{ComeFirst, Cut}
use Rattle.frame_grammar.proofs.Only.{frame_found}
use Rattle.frame_grammar.proofs.Every.{every_stream}
use Rattle.life_laws.specs.Bodies.{pieces_within, body_of, bodies_of}

frame_some : (kind : Kind) (body bytes : List ℕ) → IsFrame kind body bytes → 1 ≤ length bytes
frame_some kind body bytes f =
    let before = front kind f.digits body in
    let seven : length (trailer before) ≡ 7 = refl in
    omega (arith, ap length f.joined, length-append before (trailer before), seven)

bad_some : (cause : Garble) (s : List ℕ) (p : Piece) (o : Option ℕ) → start_in (drop 1 s) ≡ o
    → option_map (λ k. Bad cause (take (k + 1) s)) o ≡ Some p → 1 ≤ length (bytes_of p)
bad_some cause s p None at h = absurd (cc h)
bad_some cause [] p (Some k) at h = absurd (cc at)
bad_some cause (x ∷ s) p (Some k) at h =
    let same : Bad cause (take (k + 1) (x ∷ s)) ≡ p = cc h in
    subst (λ q. 1 ≤ length (bytes_of q)) same (let size : 1 ≤ length (take (k + 1) (x ∷ s)) =
    omega (arith, length-take (k + 1) (x ∷ s)) in size)

-- a piece has a byte
first_some : (kind : Kind) (s : List ℕ) (p : Piece) → first_piece kind s ≡ Some p
    → 1 ≤ length (bytes_of p)
first_some kind s p is = at (found kind s) refl is
  where
    at : (f : Found) → found kind s ≡ f → piece_at f s ≡ Some p → 1 ≤ length (bytes_of p)
    at (Whole body after) whole h =
        let f = frame_found kind s body after whole in
        let same : Good body (take (length s - length after) s) ≡ p = cc h in
        let some = frame_some kind body f.0 f.1 in
        let size : length s ≡ length f.0 + length after = ap length f.2 ∙ length-append f.0 after in
        subst (λ q. 1 ≤ length (bytes_of q)) same
        (let long : 1 ≤ length (take (length s - length after) s) =
        omega (arith, length-take (length s - length after) s, size, some) in long)
    at Short whole h = absurd (cc h)
    at (Broken cause after) whole h = bad_some cause s p (start_in (drop 1 s)) refl h

no_piece : (kind : Kind) (p : Piece) → first_piece kind [] ≡ Some p → ⊥
no_piece Fix42 p is = absurd (cc is)
no_piece Fix44 p is = absurd (cc is)
no_piece Fixt11 p is = absurd (cc is)

pub none_first : (kind : Kind) → first_piece kind [] ≡ None
none_first Fix42 = refl
none_first Fix44 = refl
none_first Fixt11 = refl

-- the pieces of a cut are those that are counted
pieces_cut : (kind : Kind) (ps : List Piece) (n : ℕ) (s rest : List ℕ) → length s ≤ n
    → Cut kind s ps rest → pieces_within n kind s ≡ ps
pieces_cut kind [] zero s rest enough cut = refl
pieces_cut kind [] (suc n) s rest enough cut =
    let none : first_piece kind s ≡ None = ap (first_piece kind) cut.0 ∙ cut.1 in
    ap (λ o. option_map_or (λ p. p ∷ pieces_within n kind (drop (length (bytes_of p)) s)) o []) none
pieces_cut kind (p ∷ ps) zero [] rest enough cut = absurd (no_piece kind p cut.0.0)
pieces_cut kind (p ∷ ps) zero (x ∷ s) rest enough cut = absurd (omega (arith, enough))
pieces_cut kind (p ∷ ps) (suc n) s rest enough cut =
    let some = first_some kind s p cut.0.0 in
    let less : length (drop (length (bytes_of p)) s) ≤ n =
    omega (arith, length-drop (length (bytes_of p)) s, some, enough) in
    ap (λ o. option_map_or (λ q. q ∷ pieces_within n kind (drop (length (bytes_of q)) s)) o [])
    cut.0.0
    ∙ ap (λ l. p ∷ l) (pieces_cut kind ps n (drop (length (bytes_of p)) s) rest less
    (cut.0.1, cut.1))

-- THE BODIES OF A STREAM are those of the frames in its cut
pub bodies_cut : (kind : Kind) (s : List ℕ) (ps : List Piece) (rest : List ℕ) → Cut kind s ps rest
    → bodies_of kind s ≡ filter_map body_of ps
bodies_cut kind s ps rest cut =
    ap (filter_map body_of) (pieces_cut kind ps (length s) s rest (omega arith) cut)

-- pieces that come first, and then those of what is left
come_cut : (kind : Kind) (s left : List ℕ) (ps qs : List Piece) (rest : List ℕ)
    → ComeFirst kind s ps left → Cut kind left qs rest → Cut kind s (ps ++ qs) rest
come_cut kind s left [] qs rest come cut =
    subst (λ l. Cut kind l qs rest) (sym come) cut
come_cut kind s left (p ∷ ps) qs rest come cut =
    let later = come_cut kind (drop (length (bytes_of p)) s) left ps qs rest come.1 cut in
    ((come.0, later.0), later.1)

-- bodies of a stream of which some pieces were answered: those, and more
pub bodies_come : (kind : Kind) (s left : List ℕ) (ps : List Piece) → ComeFirst kind s ps left
    → (more : List (List ℕ)) × (bodies_of kind s ≡ filter_map body_of ps ++ more)
bodies_come kind s left ps come =
    let every = every_stream (length left) kind left (omega arith) in
    let qs = every.0 in (
      filter_map body_of qs,
      bodies_cut kind s (ps ++ qs) every.1 (come_cut kind s left ps qs every.1 come every.2)
          ∙ filter_map-append body_of ps qs,
    )

pub bodies_more : (ps qs : List Piece)
    → filter_map body_of (ps ++ qs) ≡ filter_map body_of ps ++ filter_map body_of qs
bodies_more ps qs = filter_map-append body_of ps qs

-- a piece that is a frame has a body
last_of_come : (kind : Kind) (s left : List ℕ) (ps : List Piece) (body bytes : List ℕ)
    → ComeFirst kind s (ps ++ Good body bytes ∷ []) left
    → (t : List ℕ) × (first_piece kind t ≡ Some (Good body bytes))
last_of_come kind s left [] body bytes come = (s, come.0)
last_of_come kind s left (p ∷ ps) body bytes come =
    last_of_come kind (drop (length (bytes_of p)) s) left ps body bytes come.1

pub framed : (kind : Kind) (s left : List ℕ) (ps : List Piece) (body bytes : List ℕ)
    → ComeFirst kind s (ps ++ Good body bytes ∷ []) left → IsBody body
framed kind s left ps body bytes come =
    let last = last_of_come kind s left ps body bytes come in
    at last.0 (found kind last.0) refl last.1
  where
    at : (t : List ℕ) (f : Found) → found kind t ≡ f → piece_at f t ≡ Some (Good body bytes)
        → IsBody body
    at t (Whole b after) whole h =
        let f = frame_found kind t b after whole in
        let same : Good b (take (length t - length after) t) ≡ Good body bytes = cc h in
        let body_is : b ≡ body = cc same in
        subst IsBody body_is f.1.is_body
    at t Short whole h = absurd (cc h)
    at t (Broken cause after) whole h = bad (start_in (drop 1 t)) h
      where
        bad : (o : Option ℕ) → option_map (λ k. Bad cause (take (k + 1) t)) o
            ≡ Some (Good body bytes) → IsBody body
        bad None e = absurd (cc e)
        bad (Some k) e = absurd (cc e)
