-- Every stream has its pieces.
use Rattle.std.proofs.Common.{◌≡◌, ℕ, zero, suc, ◌+◌, ◌-◌, ◌≤◌, List, [], ◌∷◌, ◌∙◌, length, take}
use Rattle.std.proofs.Common.{drop, refl, ap, subst, arith, length-append, length-take, length-drop}
use Rattle.std.proofs.Common.{Some, None}
use Rattle.std.specs.Option.{option_map}
use Rattle.std.specs.declared.option.Option.{Option}
use Rattle.frame_grammar.specs.declared.frame.Kind.{Kind}
use Rattle.frame_grammar.specs.declared.frame.Garble.{Garble}
use Rattle.frame_grammar.specs.Frame.{IsFrame, front, trailer}
use Rattle.frame_grammar.specs.Found.{Found, Whole, Short, Broken, found}
use Rattle.frame_grammar.specs.Cut.{Piece, Good, Bad, bytes_of, start_in, piece_at, first_piece}
use Rattle.frame_grammar.specs.Cut.{Cut}
use Rattle.frame_grammar.proofs.Only.{frame_found}
use Rattle.frame_grammar.proofs.Join.{first_within}

frame_some : (kind : Kind) (body bytes : List ℕ) → IsFrame kind body bytes → 1 ≤ length bytes
frame_some kind body bytes f =
    let before = front kind f.digits body in
    let seven : length (trailer before) ≡ 7 = refl in
    omega (arith, ap length f.joined, length-append before (trailer before), seven)

bad_some : (cause : Garble) (s : List ℕ) (p : Piece) (o : Option ℕ) → start_in (drop 1 s) ≡ o
    → option_map (λ k. Bad cause (take (k + 1) s)) o ≡ Some p → 1 ≤ length (bytes_of p)
bad_some cause s p None at h = absurd (cc h)
bad_some cause [] p (Some k) at h = absurd (cc at)
bad_some cause (x ∷ s) p (Some k) at h =
    let same : Bad cause (take (k + 1) (x ∷ s)) ≡ p = cc h in
    subst (λ q. 1 ≤ length (bytes_of q)) same (let size : 1 ≤ length (take (k + 1) (x ∷ s)) =
    omega (arith, length-take (k + 1) (x ∷ s)) in size)

-- a piece has a byte
first_some : (kind : Kind) (s : List ℕ) (p : Piece)
    → first_piece kind s ≡ Some p → 1 ≤ length (bytes_of p)
first_some kind s p is = at (found kind s) refl is
  where
    at : (f : Found) → found kind s ≡ f → piece_at f s ≡ Some p → 1 ≤ length (bytes_of p)
    at (Whole body after) whole h =
        let f = frame_found kind s body after whole in
        let same : Good body (take (length s - length after) s) ≡ p = cc h in
        let some = frame_some kind body f.0 f.1 in
        let size : length s ≡ length f.0 + length after = ap length f.2 ∙ length-append f.0 after in
        subst (λ q. 1 ≤ length (bytes_of q))
        same (let long : 1 ≤ length (take (length s - length after) s) =
        omega (arith, length-take (length s - length after) s, size, some) in long)
    at Short whole h = absurd (cc h)
    at (Broken cause after) whole h = bad_some cause s p (start_in (drop 1 s)) refl h

pub every_stream : (n : ℕ) (kind : Kind) (s : List ℕ)
    → length s ≤ n → (ps : List Piece) × (rest : List ℕ) × Cut kind s ps rest
every_stream zero kind s short = at (first_piece kind s) refl
  where
    at : (o : Option Piece)
        → first_piece kind s ≡ o → (ps : List Piece) × (rest : List ℕ) × Cut kind s ps rest
    at None none = ([], s, (refl, none))
    at (Some p) is = absurd (omega (arith, first_some kind s p is, first_within kind s p is))
every_stream (suc n) kind s short = at (λ l h. every_stream n kind l h) (first_piece kind s) refl
  where
    at : ((l : List ℕ) → length l ≤ n → (ps : List Piece) × (rest : List ℕ) × Cut kind l ps rest)
        → (o : Option Piece)
        → first_piece kind s ≡ o → (ps : List Piece) × (rest : List ℕ) × Cut kind s ps rest
    at later None none = ([], s, (refl, none))
    at later (Some p) is =
        let r = later (drop (length (bytes_of p)) s)
        (omega (arith, length-drop (length (bytes_of p)) s, first_some kind s p is)) in
        (p ∷ r.0, r.1, ((is, r.2.0), r.2.1))
