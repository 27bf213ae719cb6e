-- What a journal took are bodies of frames, where it justifies what was read.
use Rattle.std.proofs.Common.{◌≡◌, ℕ, zero, suc, List, [], ◌∷◌, Option}
use Rattle.std.proofs.Common.{Some, None, IfSome, refl, sym, subst, inl, inr, if◌then◌else◌}
use Rattle.std.specs.Prelude.{length, ◌+◌, take, drop}
use Rattle.std.specs.List.{AllByRecursion, cons_option, filter_map}
use Rattle.std.specs.Option.{option_map, option_map_or}
use Rattle.order_meaning.specs.declared.Side.{Side}
use Rattle.order_meaning.specs.declared.Side.TheVariants.{Client, Venue}
use Rattle.order_meaning.specs.declared.names.Names.{Names}
use Rattle.frame_grammar.specs.declared.frame.Garble.{Garble}
use Rattle.frame_grammar.specs.declared.frame.Kind.{Kind}
use Rattle.frame_grammar.specs.Cut.{Piece, Good, Bad, bytes_of, first_piece, piece_at, start_in}
use Rattle.frame_grammar.specs.Found.{Found, Whole, Short, Broken, found}
use Rattle.frame_grammar.specs.Frame.{IsBody}
use Rattle.frame_grammar.proofs.Only.{frame_found}
use Rattle.pair_entries.specs.declared.entry.Took.{Took}
use Rattle.pair_entries.specs.declared.entry.Entry.{Entry}
use Rattle.kept_entries.specs.Numbers.{is_side}
use Rattle.session_frames.specs.Frames.{kind_of}
use Rattle.sound_laws.proofs.Each.{each_joined}
use Rattle.wires.specs.Wire.{Connection}
use Rattle.life_laws.specs.Bodies.{bodies_of, bodies_read, body_of, pieces_within}
use Rattle.life_laws.specs.Justified.{IsJustified, IsSublist, raw_of, tooks_of}
use Rattle.book_laws.specs.Laws.{TookBody}

abbrev AreBodies : List (List ℕ) → Type 0
AreBodies bodies = AllByRecursion IsBody bodies

-- the body of a piece
abbrev IsOf : Option Piece → Type 0
IsOf None = Unit {0}
IsOf (Some (Good body bytes)) = IsBody body
IsOf (Some (Bad cause bytes)) = Unit {0}

bad_of : (stream : List ℕ) (cause : Garble) (start : Option ℕ)
    → IsOf (option_map (λ (k : ℕ). Bad cause (take (k + 1) stream)) start)
bad_of stream cause None = tt
bad_of stream cause (Some k) = tt

piece_of : (kind : Kind) (stream : List ℕ) → IsOf (first_piece kind stream)
piece_of kind stream = by (found kind stream) refl
  where
    by : (f : Found) → found kind stream ≡ f → IsOf (piece_at f stream)
    by (Whole body after) is = (frame_found kind stream body after is).1.is_body
    by Short is = tt
    by (Broken cause after) is = bad_of stream cause (start_in (drop 1 stream))

within : (n : ℕ) (kind : Kind) (stream : List ℕ)
    → AreBodies (filter_map body_of (pieces_within n kind stream))
within zero kind stream = tt
within (suc n) kind stream =
    by (first_piece kind stream) (piece_of kind stream) (λ left. within n kind left)
  where
    by : (o : Option Piece) → IsOf o
        → ((left : List ℕ) → AreBodies (filter_map body_of (pieces_within n kind left)))
        → AreBodies (filter_map body_of (option_map_or (λ piece. piece
        ∷ pieces_within n kind (drop (length (bytes_of piece)) stream)) o []))
    by None is rest = tt
    by (Some (Good body bytes)) is rest = (is, rest (drop (length bytes) stream))
    by (Some (Bad cause bytes)) is rest = rest (drop (length bytes) stream)

read_bodies : (side : Side) (connections : List Connection)
    → AreBodies (bodies_read side connections)
read_bodies side [] = tt
read_bodies side (connection ∷ rest) =
    each_joined IsBody (bodies_of (kind_of side) connection.read) (bodies_read side rest)
    (within (length connection.read) (kind_of side) connection.read) (read_bodies side rest)

sublist_bodies : (xs ys : List (List ℕ)) → IsSublist xs ys → AreBodies ys → AreBodies xs
sublist_bodies [] ys sub are = tt
sublist_bodies (x ∷ xs) [] sub are = absurd sub
sublist_bodies (x ∷ xs) (y ∷ ys) (inl here) are =
    (subst IsBody (sym here.0) are.0, sublist_bodies xs ys here.1 are.1)
sublist_bodies (x ∷ xs) (y ∷ ys) (inr later) are = sublist_bodies (x ∷ xs) ys later are.1

split_bodies : (o : Option (List ℕ)) (l : List (List ℕ)) → AreBodies (cons_option o l)
    → IfSome o IsBody × AreBodies l
split_bodies None l are = (tt, are)
split_bodies (Some body) l are = (are.0, are.1)

took_body : (t : Option Took) → IfSome (raw_of Client t) IsBody → IfSome (raw_of Venue t) IsBody
    → IfSome t (λ took. IsBody took.raw)
took_body None client venue = tt
took_body (Some took) client venue = by took.side client venue
  where
    by : (s : Side) → IfSome (if is_side Client s then Some took.raw else None) IsBody
        → IfSome (if is_side Venue s then Some took.raw else None) IsBody → IsBody took.raw
    by Client client venue = client
    by Venue client venue = venue

all_bodies : (entries : List Entry) → AreBodies (tooks_of Client entries)
    → AreBodies (tooks_of Venue entries) → AllByRecursion TookBody entries
all_bodies [] client venue = tt
all_bodies (e ∷ entries) client venue =
    let c = split_bodies (raw_of Client e.took) (tooks_of Client entries) client in
    let v = split_bodies (raw_of Venue e.took) (tooks_of Venue entries) venue in
    (took_body e.took c.0 v.0, all_bodies entries c.1 v.1)

-- WHAT WAS TAKEN ARE BODIES.
pub took_bodies : (names : Names) (entries : List Entry) (client venue : List Connection)
    → IsJustified names entries Client client → IsJustified names entries Venue venue
    → AllByRecursion TookBody entries
took_bodies names entries client venue of_client of_venue = all_bodies entries
    (sublist_bodies (tooks_of Client entries) (bodies_read Client client) of_client.tooks
    (read_bodies Client client))
    (sublist_bodies (tooks_of Venue entries) (bodies_read Venue venue) of_venue.tooks
    (read_bodies Venue venue))
