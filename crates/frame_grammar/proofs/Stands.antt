-- What a framer stands for, as it takes bytes and answers.
use Rattle.std.proofs.Common.{◌≡◌, ℕ, ◌+◌, ◌-◌, ◌<◌, ◌≤◌, List, [], ◌∷◌, ◌++◌, length, take, drop}
use Rattle.std.proofs.Common.{refl, sym, ◌∙◌, ap, subst, arith, append_assoc, append-nil}
use Rattle.std.proofs.Common.{length-append, length-take, length-drop, Some, None, min}
use Rattle.std.specs.Prelude.{slice_range, MatchOption}
use Rattle.std.specs.Prelude.{Ok, Err}
use Rattle.std.specs.List.{flat_map}
use Rattle.std.specs.Option.{option_map}
use Rattle.std.specs.declared.option.Option.{Option}
use Rattle.std.proofs.lemmas.List.{append_cancel_left, drop-drop, drop_at, drop-take, take-take}
use Rattle.std.proofs.lemmas.List.{drop-append-le, take-append-drop}
use Rattle.frame_grammar.specs.declared.frame.Kind.{Kind}
use Rattle.frame_grammar.specs.declared.frame.Garble.{Garble}
use Rattle.frame_grammar.specs.declared.pieces.Lost.{Lost}
use Rattle.frame_grammar.specs.declared.pieces.Next.{Next}
use Rattle.frame_grammar.specs.declared.pieces.Next.TheVariants as next
use Rattle.frame_grammar.specs.declared.pieces.Rest.TheVariants as rest
use Rattle.frame_grammar.specs.Found.{Whole, Short, Broken, found}
use Rattle.frame_grammar.specs.Cut.{start_in, Piece, Good, Bad, bytes_of, piece_at, first_piece}
use Rattle.frame_grammar.specs.Cut.{ComeFirst, Cut}
use Rattle.frame_grammar.specs.Held.{Held, past, lost_by, found_by}
use Rattle.frame_grammar.specs.Places.{capped, place_after, EndsIn}
use Rattle.frame_grammar.specs.Framer.{IsLost, KeepsPlaces, StandsFor, Answers}
use Rattle.frame_grammar.proofs.Join.{come_later, joined}
use Rattle.std.specs.declared.result.Result.{Result}
use Rattle.frame_grammar.specs.declared.scan.Stop.{Stop}
use Rattle.frame_grammar.specs.declared.scan.Stop.TheVariants as stop
use Rattle.frame_grammar.specs.declared.scan.Front.{Front}
use Rattle.frame_grammar.specs.Scan.{IsFound}
use Rattle.frame_grammar.proofs.Bounded.{broken_some}
use Rattle.frame_grammar.proofs.Grow.{Grows, found_grows}
use Rattle.frame_grammar.proofs.Starts.{start_late, start_skip, start_grows}

capped_sum : (x y : ℕ) → capped (capped x + y) ≡ capped (x + y)
capped_sum x y = omega arith

come_snoc : (kind : Kind) (stream : List ℕ) (ps : List Piece) (left : List ℕ) (p : Piece)
    → ComeFirst kind stream ps left → first_piece kind left ≡ Some p
    → ComeFirst kind stream (ps ++ p ∷ []) (drop (length (bytes_of p)) left)
come_snoc kind stream [] left p come is =
    (ap (first_piece kind) come ∙ is, ap (drop (length (bytes_of p))) come)
come_snoc kind stream (q ∷ ps) left p come is =
    (come.0, come_snoc kind (drop (length (bytes_of q)) stream) ps left p come.1 is)

come_more : (kind : Kind) (stream t : List ℕ) (ps : List Piece) (left : List ℕ)
    → ComeFirst kind stream ps left → ComeFirst kind (stream ++ t) ps (left ++ t)
come_more kind stream t ps left come = subst (λ l. ComeFirst kind (stream ++ t) l (left ++ t))
    (append-nil ps) (come_later kind stream t ps [] left (left ++ t) come refl)

come_one : (kind : Kind) (stream : List ℕ) (ps : List Piece) (left other : List ℕ)
    → ComeFirst kind stream ps left → ComeFirst kind stream ps other → left ≡ other
come_one kind stream ps left other a b = append_cancel_left (flat_map bytes_of ps)
    left other (sym (joined kind stream ps left a) ∙ joined kind stream ps other b)

length-pushed : (ps : List Piece) (p : Piece) → length (flat_map bytes_of (ps ++ p ∷ []))
    ≡ length (flat_map bytes_of ps) + length (bytes_of p)
length-pushed [] p = omega (arith, length-append (bytes_of p) [])
length-pushed (q ∷ ps) p =
    omega (
      arith,
      length-append (bytes_of q) (flat_map bytes_of (ps ++ p ∷ [])),
      length-append (bytes_of q) (flat_map bytes_of ps),
      length-pushed ps p,
    )

lost_more : (kind : Kind) (cause : Garble) (n : ℕ) (bytes t : List ℕ)
    → IsLost kind cause n bytes → IsLost kind cause n (bytes ++ t)
lost_more kind cause n bytes t is added = subst (λ l. (after : List ℕ)
    × (found kind l ≡ Broken cause after) × ((k : ℕ) → start_in (drop 1 l) ≡ Some k → n ≤ k + 1))
    (sym (append_assoc bytes t added)) (is (t ++ added))

-- bytes that are fed go to the end of the stream
pub stands_fed : (old new : Held) (seen t : List ℕ) → new ≡ record old {
  read = seen;
  unread = old.unread ++ t;
} → (stream : List ℕ) (answered : List Piece)
    → StandsFor old stream answered → StandsFor new (stream ++ t) answered
stands_fed old new seen t is stream answered s =
    subst (λ h. StandsFor h (stream ++ t) answered) (sym is) (record {
      dropped = s.dropped;
      come = subst (ComeFirst old.kind (stream ++ t) answered) (append_assoc s.dropped old.unread t)
          (come_more old.kind stream t answered (s.dropped ++ old.unread) s.come);
      places = at old.lost s.places;
    })
  where
    at : (lost : Option Lost) → KeepsPlaces lost old (length (flat_map bytes_of answered)) s.dropped
        → KeepsPlaces lost (record old { read = seen; unread = old.unread ++ t })
        (length (flat_map bytes_of answered)) s.dropped
    at None places = places
    at (Some lost) places = (
      places.0,
      places.1,
      places.2,
      places.3,
      subst (IsLost old.kind lost.cause (length s.dropped)) (append_assoc s.dropped old.unread t)
          (lost_more old.kind lost.cause (length s.dropped) (s.dropped ++ old.unread) t places.4),
    )

length-front : (n : ℕ) (xs : List ℕ) → n ≤ length xs → length (take n xs) ≡ n
length-front n xs within = omega (arith, length-take n xs)

part_is : (seen unread : List ℕ) (start len end : ℕ) → start + len ≤ end → end ≤ length unread
    → slice_range (seen ++ take end unread) (length seen + start) (length seen + start + len)
    ≡ slice_range unread start (start + len)
part_is seen unread start len end body within =
    let n : length seen + start + len - (length seen + start) ≡ len = omega arith in
    let m : start + len - start ≡ len = omega arith in
    let is_end : end ≡ start + (end - start) = omega arith in
    let back : drop (length seen + start) (seen ++ take end unread) ≡ drop start (take end unread) =
    sym (drop-drop start (length seen) (seen ++ take end unread))
    ∙ ap (drop start) (drop_at seen (take end unread) (length seen) refl) in
    let inside : drop start (take end unread) ≡ take (end - start) (drop start unread) =
    ap (λ k. drop start (take k unread)) is_end ∙ drop-take start (end - start) unread in
    ap (λ k. take k (drop (length seen + start) (seen ++ take end unread))) n ∙ ap
    (take len) (back ∙ inside) ∙ take-take len (end - start) (drop start unread) (omega arith)
    ∙ ap (λ k. take k (drop start unread)) (sym m)

-- a frame begins the unread bytes
module _ (old : Held) (start len end : ℕ)
    (none : old.lost ≡ None) (inside : start + len ≤ end) (within : end ≤ length old.unread)
    (is : found old.kind old.unread
    ≡ Whole (slice_range old.unread start (start + len)) (drop end old.unread))
    (stream : List ℕ) (answered : List Piece) (s : StandsFor old stream answered) where
  abbrev frame_body : List ℕ
  frame_body = slice_range old.unread start (start + len)

  frame_bytes : first_piece old.kind old.unread ≡ Some (Good frame_body (take end old.unread))
  frame_bytes =
      let n : length old.unread - length (drop end old.unread) ≡ end =
      omega (arith, length-drop end old.unread) in
      ap (λ f. piece_at f old.unread) is
      ∙ ap (λ (k : ℕ). Some (Good frame_body (take k old.unread))) n

  frame_places : KeepsPlaces None old (length (flat_map bytes_of answered)) s.dropped
  frame_places =
      subst (λ o. KeepsPlaces o old (length (flat_map bytes_of answered)) s.dropped) none s.places

  frame_come : ComeFirst
      old.kind stream (answered ++ Good frame_body (take end old.unread) ∷ []) (drop end old.unread)
  frame_come =
      let come : ComeFirst old.kind stream answered old.unread =
      subst (λ d. ComeFirst old.kind stream answered (d ++ old.unread)) frame_places.0 s.come in
      subst (λ n. ComeFirst old.kind stream (answered ++ Good frame_body (take end old.unread) ∷ [])
      (drop n old.unread)) (length-front end old.unread within)
      (come_snoc old.kind
      stream answered old.unread (Good frame_body (take end old.unread)) come frame_bytes)

  frame_at : capped (old.at + end)
      ≡ capped (length (flat_map bytes_of (answered ++ Good frame_body (take end old.unread) ∷ [])))
  frame_at =
      let total : length
      (flat_map bytes_of (answered ++ Good frame_body (take end old.unread) ∷ []))
      ≡ length (flat_map bytes_of answered) + end =
      length-pushed answered (Good frame_body (take end old.unread)) ∙ ap
      (λ n. length (flat_map bytes_of answered) + n) (length-front end old.unread within) in
      ap (λ n. capped (n + end)) frame_places.1
      ∙ capped_sum (length (flat_map bytes_of answered)) end ∙ ap capped (sym total)

  pub frame_answers : Answers (next.Frame old.at
      end (record { start = length old.read + start; len = len })) (past end old) stream answered
  frame_answers = (
    frame_body,
    take end old.unread,
    record {
      dropped = [];
      come = frame_come;
      places = subst (λ o. KeepsPlaces o (past end old)
          (length (flat_map bytes_of (answered ++ Good frame_body (take end old.unread) ∷ []))) [])
          (sym none) (refl, frame_at);
    },
    frame_places.1,
    sym (length-front end old.unread within),
    part_is old.read old.unread start len end inside within,
  )

-- a garbled piece stands at the front of what was dropped and is unread, and does not end in the
-- first bytes of it
module _ (old : Held)
    (lost : Lost) (from : ℕ) (stream : List ℕ) (answered : List Piece) (dropped : List ℕ)
    (come : ComeFirst old.kind stream answered (dropped ++ old.unread))
    (some : 0 < length dropped + from) (within : from ≤ length old.unread)
    (lost_at : lost.at ≡ place_after answered)
    (lost_dropped : lost.dropped ≡ capped (length dropped))
    (at : old.at ≡ capped (length (flat_map bytes_of answered) + length dropped))
    (is_lost : IsLost old.kind lost.cause (length dropped + from) (dropped ++ old.unread)) where
  abbrev text : List ℕ
  text = dropped ++ old.unread

  text_length : length text ≡ length dropped + length old.unread
  text_length = length-append dropped old.unread

  -- what is known with nothing added
  alone : (after : List ℕ) × (found old.kind text ≡ Broken lost.cause after)
      × ((k : ℕ) → start_in (drop 1 text) ≡ Some k → length dropped + from ≤ k + 1)
  alone = subst (λ l. (after : List ℕ) × (found old.kind l ≡ Broken lost.cause after)
      × ((k : ℕ) → start_in (drop 1 l) ≡ Some k → length dropped + from ≤ k + 1))
      (append-nil text) (is_lost [])

  -- the next start is looked for past the front
  start_is : start_in (drop 1 text)
      ≡ option_map (λ k. k + (length dropped + from - 1)) (start_in (drop from old.unread))
  start_is =
      let n : 1 + (length dropped + from - 1) ≡ length dropped + from = omega arith in
      let back : drop (length dropped + from - 1) (drop 1 text) ≡ drop from old.unread =
      drop-drop (length dropped + from - 1) 1 text
      ∙ ap (λ k. drop k text) n ∙ sym (drop-drop from (length dropped) text)
      ∙ ap (drop from) (drop_at dropped old.unread (length dropped) refl) in
      start_skip (length dropped + from - 1) (drop 1 text) (λ k e. omega (arith, alone.2 k e))
      ∙ ap (λ l. option_map (λ k. k + (length dropped + from - 1)) (start_in l)) back

  drop_text : (n : ℕ) → drop (length dropped + n) text ≡ drop n old.unread
  drop_text n = sym (drop-drop n (length dropped) text)
      ∙ ap (drop n) (drop_at dropped old.unread (length dropped) refl)

  pub garbled_ends : (k : ℕ)
      → start_in (drop from old.unread) ≡ Some k → from + k ≤ length old.unread → Answers
      (found_by lost (from + k)) (record (past (from + k) old) { lost = None }) stream answered
  garbled_ends k is fits =
      let m = length dropped + (from + k) in
      let place : start_in (drop 1 text) ≡ Some (k + (length dropped + from - 1)) =
      start_is ∙ ap (option_map (λ j. j + (length dropped + from - 1))) is in
      let n : k + (length dropped + from - 1) + 1 ≡ m = omega (arith, some) in
      let piece : first_piece old.kind text ≡ Some (Bad lost.cause (take m text)) =
      ap (λ f. piece_at f text) alone.1 ∙ ap (option_map (λ j. Bad lost.cause (take (j + 1) text)))
      place ∙ ap (λ (j : ℕ). Some (Bad lost.cause (take j text))) n in
      let size : length (take m text) ≡ m =
      length-front m text (omega (arith, text_length, fits)) in
      let total : length (flat_map bytes_of (answered ++ Bad lost.cause (take m text) ∷ []))
      ≡ length (flat_map bytes_of answered) + m =
      length-pushed answered (Bad lost.cause (take m text))
      ∙ ap (λ j. length (flat_map bytes_of answered) + j) size in
      let place_is : capped (old.at + (from + k))
      ≡ capped (length (flat_map bytes_of (answered ++ Bad lost.cause (take m text) ∷ []))) =
      ap (λ j. capped (j + (from + k))) at
      ∙ capped_sum (length (flat_map bytes_of answered) + length dropped) (from + k)
      ∙ ap capped (let e : length (flat_map bytes_of answered) + length dropped + (from + k)
      ≡ length (flat_map bytes_of answered) + m = omega arith in e) ∙ ap capped (sym total) in
      let stays : ComeFirst old.kind
      stream (answered ++ Bad lost.cause (take m text) ∷ []) (drop (from + k) old.unread) =
      subst (ComeFirst old.kind stream (answered ++ Bad lost.cause (take m text) ∷ []))
      (ap (λ j. drop j text) size ∙ drop_text (from + k))
      (come_snoc old.kind stream answered text (Bad lost.cause (take m text)) come piece) in (
        take m text,
        record { dropped = []; come = stays; places = (refl, place_is) },
        lost_at,
        ap (λ j. capped (j + (from + k))) lost_dropped
            ∙ capped_sum (length dropped) (from + k) ∙ ap capped (sym size),
      )

  pub garbled_goes_on : (count : ℕ) → count ≡ length old.unread - min 4 (length old.unread - from)
      → start_in (drop from old.unread) ≡ None
      → Answers next.More (lost_by lost count old) stream answered
  garbled_goes_on count count_is none =
      let fits : count ≤ length old.unread = omega (arith, count_is) in
      let past_from : from ≤ count = omega (arith, count_is, within) in
      let nowhere : start_in (drop 1 text) ≡ None =
      start_is ∙ ap (option_map (λ j. j + (length dropped + from - 1))) none in
      let front = take count old.unread in
      let size : length (dropped ++ front) ≡ length dropped + count = length-append dropped front
      ∙ ap (λ j. length dropped + j) (length-front count old.unread fits) in
      let same : (dropped ++ front) ++ drop count old.unread ≡ text = append_assoc dropped front
      (drop count old.unread) ∙ ap (λ l. dropped ++ l) (take-append-drop count old.unread) in
      let long : 1 ≤ length text = omega (arith, text_length, some, within) in
      let still : IsLost old.kind lost.cause (length dropped + count) text =
      λ added. let before = is_lost added in (
        before.0,
        before.1,
        λ k e. let moved : drop 1 (text ++ added) ≡ drop 1 text ++ added =
            drop-append-le 1 text added long in
            let late = start_late (drop 1 text) added k nowhere (ap start_in (sym moved) ∙ e) in
            omega (arith, late, length-drop 1 text, text_length, before.2 k e, count_is, within),
      ) in
      let goes_on : IsLost old.kind
      lost.cause (length (dropped ++ front)) ((dropped ++ front) ++ drop count old.unread) =
      subst (λ l. IsLost old.kind lost.cause (length (dropped ++ front)) l)
      (sym same) (subst (λ n. IsLost old.kind lost.cause n text) (sym size) still) in
      let dropped_is : capped (lost.dropped + count) ≡ capped (length (dropped ++ front)) =
      ap (λ j. capped (j + count)) lost_dropped
      ∙ capped_sum (length dropped) count ∙ ap capped (sym size) in
      let place_is : capped (old.at + count)
      ≡ capped (length (flat_map bytes_of answered) + length (dropped ++ front)) =
      ap (λ j. capped (j + count)) at
      ∙ capped_sum (length (flat_map bytes_of answered) + length dropped) count
      ∙ ap capped (let e : length (flat_map bytes_of answered) + length dropped + count ≡ length
      (flat_map bytes_of answered) + length (dropped ++ front) = omega (arith, size) in e) in
      let stays : ComeFirst old.kind stream answered ((dropped ++ front) ++ drop count old.unread) =
      subst (ComeFirst old.kind stream answered) (sym same) come in
      let no_piece : first_piece old.kind text ≡ None = ap (λ f. piece_at f text) alone.1
      ∙ ap (option_map (λ j. Bad lost.cause (take (j + 1) text))) nowhere in (
        record {
          dropped = dropped ++ front;
          come = stays;
          places = (omega (arith, size, some, past_from), lost_at, dropped_is, place_is, goes_on);
        },
        (text, (come, no_piece)),
      )

  pub garbled_answers : (result : Next) (new : Held) (o : Option ℕ)
      → start_in (drop from old.unread) ≡ o
      → MatchOption o (result ≡ next.More) (λ k. result ≡ found_by lost (from + k))
      → MatchOption o (new ≡ lost_by lost (length old.unread - min 4 (length old.unread - from))
      old) (λ k. new ≡ record (past (from + k) old) { lost = None })
      → Answers result new stream answered
  garbled_answers result new None is ended after =
      subst (λ r. Answers r new stream answered)
      (sym ended) (subst (λ h. Answers next.More h stream answered) (sym after)
      (garbled_goes_on (length old.unread - min 4 (length old.unread - from)) refl is))
  garbled_answers result new (Some k) is ended after =
      let fits : from + k ≤ length old.unread = omega
      (arith, (start_grows (drop from old.unread) [] k is).0, length-drop from old.unread) in
      subst (λ r. Answers r new stream answered) (sym ended) (subst (λ h. Answers
      (found_by lost (from + k)) h stream answered) (sym after) (garbled_ends k is fits))

-- inside a garbled piece
pub lost_answers : (old new : Held) (result : Next) (lost : Lost) → old.lost ≡ Some lost
    → MatchOption (start_in old.unread) (result ≡ next.More) (λ k. result ≡ found_by lost (0 + k))
    → MatchOption (start_in old.unread)
    (new ≡ lost_by lost (length old.unread - min 4 (length old.unread - 0)) old)
    (λ k. new ≡ record (past (0 + k) old) { lost = None })
    → (stream : List ℕ) (answered : List Piece)
    → StandsFor old stream answered → Answers result new stream answered
lost_answers old new result lost is ended after stream answered s =
    let places : KeepsPlaces (Some lost) old (length (flat_map bytes_of answered)) s.dropped = subst
    (λ o. KeepsPlaces o old (length (flat_map bytes_of answered)) s.dropped) is s.places in
    let n : length s.dropped ≡ length s.dropped + 0 = omega arith in
    garbled_answers old lost 0 stream
    answered s.dropped s.come (omega (arith, places.0)) (omega arith) places.1 places.2 places.3
    (subst (λ m. IsLost old.kind lost.cause m (s.dropped ++ old.unread)) n places.4)
    result new (start_in old.unread) refl ended after

-- at the start of one
pub broken_answers : (old new : Held) (result : Next) (cause : Garble) (rest : List ℕ)
    → old.lost ≡ None → found old.kind old.unread ≡ Broken cause rest
    → (let lost : Lost = record { at = old.at; cause = cause; dropped = 0 } in
    MatchOption
    (start_in (drop 1 old.unread)) (result ≡ next.More) (λ k. result ≡ found_by lost (1 + k))
    → MatchOption (start_in (drop 1 old.unread))
    (new ≡ lost_by lost (length old.unread - min 4 (length old.unread - 1)) old)
    (λ k. new ≡ record (past (1 + k) old) { lost = None })
    → (stream : List ℕ) (answered : List Piece)
    → StandsFor old stream answered → Answers result new stream answered)
broken_answers old new result cause rest none is ended after stream answered s =
    let places : KeepsPlaces None old (length (flat_map bytes_of answered)) s.dropped = subst
    (λ o. KeepsPlaces o old (length (flat_map bytes_of answered)) s.dropped) none s.places in
    let come : ComeFirst old.kind stream answered old.unread =
    subst (λ d. ComeFirst old.kind stream answered (d ++ old.unread)) places.0 s.come in
    let n : length (flat_map bytes_of answered) ≡ length (flat_map bytes_of answered) + 0 =
    omega arith in
    garbled_answers old (record { at = old.at; cause = cause; dropped = 0 }) 1 stream
    answered [] come (omega arith) (broken_some old.kind old.unread rest cause is) places.1 refl
    (places.1 ∙ ap capped n)
    (λ added. (
      rest ++ added,
      subst (λ f. Grows added f (found old.kind (old.unread ++ added)))
          is (found_grows added old.kind old.unread),
      λ k e. omega arith,
    ))
    result new (start_in (drop 1 old.unread)) refl ended after

-- how the stream ends
module _ (held : Held) (stream left : List ℕ) (answered : List Piece)
    (s : StandsFor held stream answered) (cut : Cut held.kind stream answered left) where
  left_is : left ≡ s.dropped ++ held.unread
  left_is = come_one held.kind stream answered left (s.dropped ++ held.unread) cut.0 s.come

  pub lost_ends : (lost : Lost) → held.lost ≡ Some lost
      → EndsIn (rest.Garbled lost.at (capped (lost.dropped + length held.unread)) lost.cause)
      held.kind (place_after answered) left
  lost_ends lost is =
      let places : KeepsPlaces (Some lost) held (length (flat_map bytes_of answered)) s.dropped =
      subst
      (λ o. KeepsPlaces o held (length (flat_map bytes_of answered)) s.dropped) is s.places in
      let alone = places.4 [] in
      let size : length left ≡ length s.dropped + length held.unread =
      ap length left_is ∙ length-append s.dropped held.unread in (
        (
          alone.0,
          ap (found held.kind) (left_is ∙ sym (append-nil (s.dropped ++ held.unread))) ∙ alone.1,
        ),
        places.1,
        ap (λ n. capped (n + length held.unread)) places.2
            ∙ capped_sum (length s.dropped) (length held.unread) ∙ ap capped (sym size),
      )

  module _ (none : held.lost ≡ None) where
    whole_places : KeepsPlaces None held (length (flat_map bytes_of answered)) s.dropped
    whole_places = subst
        (λ o. KeepsPlaces o held (length (flat_map bytes_of answered)) s.dropped) none s.places

    pub left_unread : left ≡ held.unread
    left_unread = left_is ∙ ap (λ l. l ++ held.unread) whole_places.0

    pub place_is : held.at ≡ place_after answered
    place_is = whole_places.1

    pub broken_ends : (cause : Garble)
        → ((after : List ℕ) × (found held.kind held.unread ≡ Broken cause after))
        → length held.unread ≤ 16384
        → EndsIn
        (rest.Garbled held.at (length held.unread) cause) held.kind (place_after answered) left
    broken_ends cause is small = (
      (is.0, ap (found held.kind) left_unread ∙ is.1),
      place_is,
      (let e : length held.unread ≡ capped (length held.unread) = omega (arith, small) in e)
          ∙ ap (λ (l : List ℕ). capped (length l)) (sym left_unread),
    )

    pub short_ends : (front : Result Front Stop)
        → IsFound front held.unread (found held.kind held.unread)
        → ((cause : Garble) → front ≡ Err (stop.Garbled cause) → ⊥) → (held.unread ≡ [] → ⊥)
        → EndsIn (rest.Inside held.at (length held.unread)) held.kind (place_after answered) left
    short_ends front is other some = (
      λ empty. some (sym left_unread ∙ empty),
      ap (found held.kind) left_unread ∙ short front is other,
      place_is,
      ap length (sym left_unread),
    )
      where
        nothing : first_piece held.kind held.unread ≡ None
        nothing = ap (first_piece held.kind) (sym left_unread) ∙ cut.1

        short : (front : Result Front Stop)
            → IsFound front held.unread (found held.kind held.unread)
            → ((cause : Garble) → front ≡ Err (stop.Garbled cause) → ⊥)
            → found held.kind held.unread ≡ Short
        short (Ok front) is other =
            let whole = ap (λ f. piece_at f held.unread) is.2 in absurd (cc (whole, nothing))
        short (Err stop.More) is other = is
        short (Err (stop.Garbled cause)) is other = absurd (other cause refl)
