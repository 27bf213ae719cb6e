-- From a justified transcript a receiver takes the committed outs in order.
use Rattle.std.proofs.Common.{◌≡◌, ℕ, zero, suc, ◌+◌, ◌-◌, ◌<◌, ◌≤◌, List, [], ◌∷◌, ◌++◌, length}
use Rattle.std.proofs.Common.{take, drop, refl, sym, ◌∙◌, ap, subst, arith, append_assoc}
use Rattle.std.proofs.Common.{append-nil, length-append, take-append-drop, inl, inr, ◌⊎◌}
use Rattle.std.specs.Prelude.{map}
use Rattle.std.specs.List.{flat_map, filter_map}
use Rattle.std.specs.Option.{option_map_or}
use Rattle.order_meaning.specs.declared.Side.{Side}
use Rattle.order_meaning.specs.declared.names.Names.{Names}
use Rattle.frame_grammar.specs.declared.frame.Kind.{Kind}
use Rattle.pair_entries.specs.declared.entry.Out.{Out}
use Rattle.pair_entries.specs.declared.entry.Entry.{Entry}
use Rattle.wires.specs.Wire.{Connection}
use Rattle.session_frames.specs.Frames.{kind_of}
use Rattle.life_laws.specs.Justified.{ShowsAll, IsJustified}
use Rattle.life_laws.specs.Bodies.{pieces_within, body_of, bodies_of}
use Rattle.life_laws.specs.Forms.{Form, form_frame, AreForms}
use Rattle.life_laws.specs.Taken.{Message, Read, take_more, AreFronts, TakesInOrder, read_of_form}
use Rattle.life_laws.specs.Taken.{committed_below, AreReadAsForms}
use Rattle.std.proofs.lemmas.List.{map-append, take_at, drop_at, take-append-le}
use Rattle.frame_grammar.specs.Frame.{IsFrame}
use Rattle.frame_grammar.specs.Found.{Found, Whole, Short, Broken, found}
use Rattle.frame_grammar.specs.Cut.{Piece, bytes_of, piece_at}
use Rattle.frame_grammar.specs.declared.frame.Kind.TheVariants.{Fix42}
use Rattle.frame_grammar.proofs.Grow.{Grows, found_grows}
use Rattle.frame_grammar.proofs.Begins.{found_frame}
use Rattle.life_laws.proofs.Grown.{forms_join}
use Rattle.life_laws.proofs.InOrder.{in_order}

-- less than a frame is less than a piece
front_short : (kind : Kind) (body frame front more : List ℕ) → IsFrame kind body frame
    → front ++ more ≡ frame → 1 ≤ length more → found kind front ≡ Short
front_short kind body frame front more is joined some = at (found kind front)
    (found_grows more kind front) refl
  where
    whole : found kind (front ++ more) ≡ Whole body []
    whole = ap (found kind) (joined ∙ sym (append-nil frame)) ∙ found_frame kind body frame [] is

    at : (f : Found) → Grows more f (found kind (front ++ more)) → found kind front ≡ f
        → found kind front ≡ Short
    at (Whole b a) grows e = let same : Whole b (a ++ more) ≡ Whole body [] = sym grows
        ∙ whole in let none : a ++ more ≡ [] = cc same in
        absurd (omega (arith, ap length none, length-append a more))
    at Short grows e = e
    at (Broken cause a) grows e = let same : Broken cause (a ++ more) ≡ Whole body [] = sym grows
        ∙ whole in absurd (cc same)

found_nil : (kind : Kind) → found kind [] ≡ Short
found_nil Fix42 = refl
found_nil kind = refl

-- a frame has a byte
frame_some : (kind : Kind) (body frame : List ℕ) → IsFrame kind body frame → 1 ≤ length frame
frame_some kind body [] is = absurd (cc (found_frame kind body [] [] is, found_nil kind))
frame_some kind body (b ∷ frame) is = omega arith

prefix_of : (front rest t u : List ℕ) → front ++ rest ≡ t ++ u → length front ≤ length t
    → (more : List ℕ) × (front ++ more ≡ t)
prefix_of front rest t u is short =
    let n = length front in
    let same : front ≡ take n t = sym (take_at front rest n refl) ∙ ap (take n) is
    ∙ take-append-le n t u short in
    (drop n t, ap (λ l. l ++ drop n t) same ∙ take-append-drop n t)

rest_same : (t more rest u : List ℕ) → (t ++ more) ++ rest ≡ t ++ u → more ++ rest ≡ u
rest_same t more rest u is = sym (drop_at t (more ++ rest) (length t) refl)
    ∙ ap (drop (length t)) (sym (append_assoc t more rest) ∙ is) ∙ drop_at t u (length t) refl

cases_le : (a b : ℕ) → (a < b) ⊎ (b ≤ a)
cases_le a b = grind arith

AreForms-take : (entries : List Entry) (side : Side) (k : ℕ) (forms : List Form)
    → AreForms entries side forms → AreForms entries side (take k forms)
AreForms-take entries side zero forms are = tt
AreForms-take entries side (suc k) [] are = tt
AreForms-take entries side (suc k) (f ∷ forms) are =
    (are.0, AreForms-take entries side k forms are.1)

module _ (read : List ℕ → Read) (message_of : Out → Message) (names : Names) (side : Side)
    (entries : List Entry) (known : AreReadAsForms read message_of names entries side) where
  -- a front of the texts of forms is cut into the first of them
  cut_front : (forms : List Form) → AreForms entries side forms → (n : ℕ) (front rest : List ℕ)
      → length front ≤ n → front ++ rest ≡ flat_map (form_frame names side) forms
      → (k : ℕ) × (filter_map body_of (pieces_within n (kind_of side) front)
      ≡ map known.body (take k forms))
  cut_front forms are zero front rest enough is = (0, refl)
  cut_front [] are (suc n) front rest enough is = go front is
    where
      go : (l : List ℕ) → l ++ rest ≡ [] → (k : ℕ)
          × (filter_map body_of (pieces_within (suc n) (kind_of side) l)
          ≡ map known.body (take k []))
      go [] h = (
        0,
        ap (λ f. filter_map body_of (option_map_or (λ p. p ∷ pieces_within n
            (kind_of side) (drop (length (bytes_of p)) [])) (piece_at f []) [])) (found_nil
            (kind_of side)),
      )
      go (x ∷ l) h = absurd (cc h)
  cut_front (f ∷ forms) are (suc n) front rest enough is =
      let kind = kind_of side in
      let frame = form_frame names side f in
      let frame_is = known.frames f are.0 in
      let next : Found → List Piece = λ found_here. option_map_or (λ p. p ∷ pieces_within n kind
      (drop (length (bytes_of p)) front)) (piece_at found_here front) [] in
      elim (cases_le (length front) (length frame)) [
        | inl short ↦
            let p = prefix_of front rest frame (flat_map (form_frame names side) forms) is
            (omega arith) in
            let some : 1 ≤ length p.0 = omega (arith, ap length p.1, length-append front p.0) in (
              0,
              ap (λ f. filter_map body_of (next f)) (front_short kind
                  (known.body f) frame front p.0 frame_is p.1 some),
            )
        | inr long ↦
            let p = prefix_of frame (flat_map (form_frame names side) forms) front rest
            (sym is) long in
            let more = p.0 in
            let rest_is : more ++ rest
            ≡ flat_map (form_frame names side) forms = rest_same frame more rest (flat_map
            (form_frame names side) forms) (ap (λ l. l ++ rest) p.1 ∙ is) in
            let some = frame_some kind (known.body f) frame frame_is in
            let size : length front ≡ length frame + length more = sym (ap length p.1)
            ∙ length-append frame more in
            let later = cut_front forms are.1 n more rest (omega (arith, size, some)) rest_is in
            let whole : found kind front ≡ Whole (known.body f) more = ap (found kind) (sym p.1)
            ∙ found_frame kind (known.body f) frame more frame_is in
            let taken : take (length front - length more) front
            ≡ frame = ap (take (length front - length more)) (sym p.1)
            ∙ take_at frame more (length front - length more) (omega (arith, size)) in
            let dropped : drop (length frame) front ≡ more = ap (drop (length frame)) (sym p.1)
            ∙ drop_at frame more (length frame) refl in (
              suc later.0,
              ap (λ f. filter_map body_of (next f)) whole
                  ∙ ap (λ l. known.body f ∷ filter_map body_of (pieces_within n kind (drop
                  (length l) front))) taken
                  ∙ ap (λ l. known.body f ∷ filter_map body_of (pieces_within n kind l)) dropped
                  ∙ ap (λ l. known.body f ∷ l) later.1,
            )
      ]

  -- all of them are cut into these forms
  cut_all : (forms : List Form) → AreForms entries side forms → (n : ℕ)
      → length (flat_map (form_frame names side) forms) ≤ n
      → filter_map body_of
      (pieces_within n (kind_of side) (flat_map (form_frame names side) forms))
      ≡ map known.body forms
  cut_all [] are zero enough = refl
  cut_all [] are (suc n) enough =
      ap (λ f. filter_map body_of (option_map_or (λ p. p ∷ pieces_within n (kind_of side)
      (drop (length (bytes_of p)) [])) (piece_at f []) [])) (found_nil (kind_of side))
  cut_all (f ∷ forms) are zero enough =
      let frame = form_frame names side f in
      let more = flat_map (form_frame names side) forms in
      let few : length (frame ++ more) ≤ 0 = enough in
      let some = frame_some (kind_of side) (known.body f) frame (known.frames f are.0) in
      absurd (omega (arith, few, some, length-append frame more))
  cut_all (f ∷ forms) are (suc n) enough =
      let kind = kind_of side in
      let frame = form_frame names side f in
      let more = flat_map (form_frame names side) forms in
      let some = frame_some kind (known.body f) frame (known.frames f are.0) in
      let few : length (frame ++ more) ≤ suc n = enough in
      let size : length (frame ++ more) ≡ length frame + length more = length-append frame more in
      let next : Found → List Piece = λ found_here. option_map_or (λ p. p ∷ pieces_within n kind
      (drop (length (bytes_of p)) (frame ++ more))) (piece_at found_here (frame ++ more)) [] in
      let whole : found kind (frame ++ more) ≡ Whole (known.body f) more =
      found_frame kind (known.body f) frame more (known.frames f are.0) in
      let taken : take (length (frame ++ more) - length more) (frame ++ more) ≡ frame =
      take_at frame more (length (frame ++ more) - length more) (omega (arith, size)) in
      let dropped : drop (length frame) (frame ++ more) ≡ more =
      drop_at frame more (length frame) refl in
      ap (λ f. filter_map body_of (next f)) whole
      ∙ ap (λ l. known.body f ∷ filter_map body_of (pieces_within n kind
      (drop (length l) (frame ++ more)))) taken
      ∙ ap (λ l. known.body f ∷ filter_map body_of (pieces_within n kind l)) dropped
      ∙ ap (λ l. known.body f ∷ l) (cut_all forms are.1 n (omega (arith, few, size, some)))

  reads_are : (forms : List Form) → AreForms entries side forms
      → map read (map known.body forms) ≡ map (read_of_form read message_of) forms
  reads_are [] are = refl
  reads_are (f ∷ forms) are = cc (known.reads f are.0, reads_are forms are.1)

  -- and read as what they show
  pub read_all : (forms : List Form) → AreForms entries side forms
      → map read (bodies_of (kind_of side) (flat_map (form_frame names side) forms))
      ≡ map (read_of_form read message_of) forms
  read_all forms are =
      ap (λ l. map read l) (cut_all forms are (length (flat_map (form_frame names side) forms))
      (omega arith)) ∙ reads_are forms are

  pub record Chosen (fronts : List (List ℕ)) : Type 0 where
    pub forms : List Form
    pub are : AreForms entries side forms
    pub reads : flat_map (λ front. map read (bodies_of (kind_of side) front)) fronts
        ≡ map (read_of_form read message_of) forms

  choose : (links : List Connection) (shown : List (List Form)) (fronts : List (List ℕ))
      → ShowsAll names entries side links shown → AreFronts fronts links → Chosen fronts
  choose [] shown [] shows are_fronts = record { forms = []; are = tt; reads = refl }
  choose [] shown (front ∷ fronts) shows are_fronts = absurd are_fronts
  choose (link ∷ links) shown [] shows are_fronts = absurd are_fronts
  choose (link ∷ links) [] (front ∷ fronts) shows are_fronts = absurd shows
  choose (link ∷ links) (forms ∷ shown) (front ∷ fronts) shows are_fronts =
      let rest = are_fronts.0.0 in
      let missing = shows.1.0 in
      let whole : front ++ (rest ++ missing)
      ≡ flat_map (form_frame names side) forms = sym (append_assoc front rest missing)
      ∙ ap (λ l. l ++ missing) are_fronts.0.1 ∙ shows.1.1 in
      let here = cut_front forms shows.0 (length front) front (rest
      ++ missing) (omega arith) whole in
      let first = take here.0 forms in
      let first_are = AreForms-take entries side here.0 forms shows.0 in
      let later = choose links shown fronts shows.2 are_fronts.1 in
      record {
        forms = first ++ later.forms;
        are = forms_join side entries first later.forms first_are later.are;
        reads = ap (λ l. map read l
            ++ flat_map (λ f. map read (bodies_of (kind_of side) f)) fronts) here.1
            ∙ ap (λ l. l ++ flat_map (λ f. map read (bodies_of (kind_of side) f)) fronts)
            (reads_are first first_are)
            ∙ ap (λ l. map (read_of_form read message_of) first ++ l) later.reads
            ∙ sym (map-append (read_of_form read message_of) first later.forms);
      }

pub first_half : (read : List ℕ → Read) (message_of : Out
    → Message) (names : Names) (side : Side) (entries : List Entry) (links : List Connection)
    → AreReadAsForms read message_of names entries side → ((out : Out)
    → (message_of out).number ≡ out.number)
    → IsJustified names entries side links → TakesInOrder read message_of side entries links
first_half read message_of names side entries links known numbers justified fronts are_fronts =
    let chosen = choose read message_of names side entries known links justified.forms fronts
    justified.shows are_fronts in
    let taking : take_more 1 (flat_map (λ front. map read (bodies_of (kind_of side) front)) fronts)
    ≡ take_more 1 (map (read_of_form read message_of) chosen.forms) = ap
    (take_more 1) chosen.reads in
    subst (λ t. t.taken ≡ committed_below read message_of side t.next entries) (sym taking)
    (in_order read message_of side entries chosen.forms numbers chosen.are)
