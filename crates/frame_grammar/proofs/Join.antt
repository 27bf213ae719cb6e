-- The pieces of a stream do not depend on how it was cut.
use Rattle.std.proofs.Common.{◌≡◌, ℕ, zero, suc, ◌+◌, ◌-◌, ◌≤◌, List, [], ◌∷◌, ◌++◌, length, take}
use Rattle.std.proofs.Common.{drop, refl, sym, ◌∙◌, ap, subst, arith, length-append, length-take}
use Rattle.std.proofs.Common.{append_assoc, take-append-drop, Some, None}
use Rattle.std.specs.List.{flat_map}
use Rattle.std.specs.Option.{option_map}
use Rattle.std.specs.declared.option.Option.{Option}
use Rattle.std.proofs.lemmas.List.{take-append-le, drop-append-le}
use Rattle.frame_grammar.specs.declared.frame.Kind.{Kind}
use Rattle.frame_grammar.specs.declared.frame.Garble.{Garble}
use Rattle.frame_grammar.specs.Found.{Found, Whole, Short, Broken, found}
use Rattle.frame_grammar.specs.Cut.{start_in, Piece, Good, Bad, bytes_of, garbled, piece_at}
use Rattle.frame_grammar.specs.Cut.{first_piece, ComeFirst, Cut}
use Rattle.frame_grammar.proofs.Grow.{Grows, found_grows}
use Rattle.frame_grammar.proofs.Starts.{start_grows}

bad_grows : (cause : Garble) (x : ℕ) (xs t : List ℕ) (p : Piece) (o : Option ℕ)
    → start_in xs ≡ o → option_map (λ k. Bad cause (take (k + 1) (x ∷ xs))) o ≡ Some p
    → garbled cause ((x ∷ xs) ++ t) ≡ Some p
bad_grows cause x xs t p None e h = absurd (cc h)
bad_grows cause x xs t p (Some k) e h =
    let grows = start_grows xs t k e in
    let front : take (k + 1) ((x ∷ xs) ++ t) ≡ take (k + 1) (x ∷ xs) =
    take-append-le (k + 1) (x ∷ xs) t (omega (arith, grows.0)) in
    ap (λ o. option_map (λ k. Bad cause (take (k + 1) ((x ∷ xs) ++ t))) o) grows.1
    ∙ ap (λ (l : List ℕ). Some (Bad cause l)) front ∙ h

short_front : (n : ℕ) (s : List ℕ) → length (take n s) ≤ length s
short_front n s = omega (arith, length-take n s)

bad_within : (cause : Garble) (s : List ℕ) (p : Piece) (o : Option ℕ)
    → option_map (λ k. Bad cause (take (k + 1) s)) o ≡ Some p → length (bytes_of p) ≤ length s
bad_within cause s p None h = absurd (cc h)
bad_within cause s p (Some k) h = let same : Bad cause (take (k + 1) s) ≡ p =
    cc h in subst (λ x. length (bytes_of x) ≤ length s) same (short_front (k + 1) s)

-- a piece that has come stays the first
pub first_grows : (kind : Kind) (s t : List ℕ) (p : Piece)
    → first_piece kind s ≡ Some p → first_piece kind (s ++ t) ≡ Some p
first_grows kind s t p is = at (found kind s) (found kind (s ++ t)) (found_grows t kind s) is
  where
    at : (f g : Found) → Grows t f g → piece_at f s ≡ Some p → piece_at g (s ++ t) ≡ Some p
    at (Whole body after) g grows same =
        let n : length (s ++ t) - length (after ++ t) ≡ length s - length after =
        omega (arith, length-append s t, length-append after t) in
        let front : take (length (s ++ t) - length (after ++ t)) (s ++ t)
        ≡ take (length s - length after) s =
        ap (λ k. take k (s ++ t)) n ∙ take-append-le (length s - length after) s t (omega arith) in
        ap (λ f. piece_at f (s ++ t)) grows ∙ ap (λ (l : List ℕ). Some (Good body l)) front ∙ same
    at Short g grows same = absurd (cc same)
    at (Broken cause after) g grows same = ap (λ f. piece_at f (s ++ t)) grows ∙ bad s same
      where
        bad : (xs : List ℕ) → garbled cause xs ≡ Some p → garbled cause (xs ++ t) ≡ Some p
        bad [] none = absurd (cc none)
        bad (x ∷ xs) is = bad_grows cause x xs t p (start_in xs) refl is

-- a piece is a front of its stream
pub first_within : (kind : Kind) (s : List ℕ) (p : Piece)
    → first_piece kind s ≡ Some p → length (bytes_of p) ≤ length s
first_within kind s p is = at (found kind s) is
  where
    at : (f : Found) → piece_at f s ≡ Some p → length (bytes_of p) ≤ length s
    at (Whole body after) h =
        let same : Good body (take (length s - length after) s) ≡ p = cc h in subst
        (λ x. length (bytes_of x) ≤ length s) same (short_front (length s - length after) s)
    at Short h = absurd (cc h)
    at (Broken cause after) h = bad_within cause s p (start_in (drop 1 s)) h

take_front : (n : ℕ) (xs : List ℕ) → take n xs ≡ take (length (take n xs)) xs
take_front zero xs = refl
take_front (suc n) [] = refl
take_front (suc n) (x ∷ xs) = ap (λ (l : List ℕ). x ∷ l) (take_front n xs)

bad_front : (cause : Garble) (s : List ℕ) (p : Piece) (o : Option ℕ) → option_map
    (λ k. Bad cause (take (k + 1) s)) o ≡ Some p → bytes_of p ≡ take (length (bytes_of p)) s
bad_front cause s p None h = absurd (cc h)
bad_front cause s p (Some k) h = let same : Bad cause (take (k + 1) s) ≡ p =
    cc h in subst (λ x. bytes_of x ≡ take (length (bytes_of x)) s) same (take_front (k + 1) s)

-- the bytes of a piece begin the stream
pub first_front : (kind : Kind) (s : List ℕ) (p : Piece)
    → first_piece kind s ≡ Some p → bytes_of p ≡ take (length (bytes_of p)) s
first_front kind s p is = at (found kind s) is
  where
    at : (f : Found) → piece_at f s ≡ Some p → bytes_of p ≡ take (length (bytes_of p)) s
    at (Whole body after) h =
        let same : Good body (take (length s - length after) s) ≡ p = cc h in
        subst (λ x. bytes_of x ≡ take (length (bytes_of x)) s)
        same (take_front (length s - length after) s)
    at Short h = absurd (cc h)
    at (Broken cause after) h = bad_front cause s p (start_in (drop 1 s)) h

-- what comes later joins on
pub come_later : (kind : Kind) (s t : List ℕ) (ps qs : List Piece) (left end : List ℕ) → ComeFirst
    kind s ps left → ComeFirst kind (left ++ t) qs end → ComeFirst kind (s ++ t) (ps ++ qs) end
come_later kind s t [] qs left end before after =
    subst (λ l. ComeFirst kind (l ++ t) qs end) (sym before) after
come_later kind s t (p ∷ ps) qs left end before after =
    let more = come_later kind (drop (length (bytes_of p)) s) t ps qs left end before.1 after in
    let back : drop (length (bytes_of p)) (s ++ t) ≡ drop (length (bytes_of p)) s ++ t =
    drop-append-le (length (bytes_of p)) s t (first_within kind s p before.0) in
    (first_grows kind s t p before.0, subst (λ l. ComeFirst kind l (ps ++ qs) end) (sym back) more)

pub join : (kind : Kind) (s t : List ℕ) (ps qs : List Piece) (rest end : List ℕ)
    → Cut kind s ps rest → Cut kind (rest ++ t) qs end → Cut kind (s ++ t) (ps ++ qs) end
join kind s t ps qs rest end before after =
    (come_later kind s t ps qs rest end before.0 after.0, after.1)

-- the pieces and the rest are the stream
pub joined : (kind : Kind) (s : List ℕ) (ps : List Piece) (left : List ℕ)
    → ComeFirst kind s ps left → s ≡ flat_map bytes_of ps ++ left
joined kind s [] left come = come
joined kind s (p ∷ ps) left come =
    let n = length (bytes_of p) in
    sym (take-append-drop n s) ∙ ap (λ l. take n s ++ l) (joined kind (drop n s) ps left come.1)
    ∙ ap (λ l. l ++ (flat_map bytes_of ps ++ left)) (sym (first_front kind s p come.0))
    ∙ sym (append_assoc (bytes_of p) (flat_map bytes_of ps) left)

-- a stream has one list of pieces
pub one_cut : (kind : Kind) (s : List ℕ) (ps qs : List Piece) (rest end : List ℕ)
    → Cut kind s ps rest → Cut kind s qs end → (ps ≡ qs) × (rest ≡ end)
one_cut kind s [] [] rest end a b = (refl, sym a.0 ∙ b.0)
one_cut kind s [] (q ∷ qs) rest end a b = let none : first_piece kind s ≡ None =
    ap (first_piece kind) a.0 ∙ a.1 in absurd (cc (none, b.0.0))
one_cut kind s (p ∷ ps) [] rest end a b = let none : first_piece kind s ≡ None =
    ap (first_piece kind) b.0 ∙ b.1 in absurd (cc (none, a.0.0))
one_cut kind s (p ∷ ps) (q ∷ qs) rest end a b =
    let found_both : Some p ≡ Some q = sym a.0.0 ∙ b.0.0 in
    let same : p ≡ q = cc found_both in
    let other =
    subst (λ x. ComeFirst kind (drop (length (bytes_of x)) s) qs end) (sym same) b.0.1 in
    let more =
    one_cut kind (drop (length (bytes_of p)) s) ps qs rest end (a.0.1, a.1) (other, b.1) in
    (cc (same, more.0), more.1)
