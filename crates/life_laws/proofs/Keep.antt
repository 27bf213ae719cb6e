-- One event keeps what stands on a side.
use Rattle.std.proofs.Common.{◌≡◌, ℕ, ◌+◌, ◌≤◌, Bool, true, false, List, [], ◌∷◌, ◌++◌, length}
use Rattle.std.proofs.Common.{refl, sym, ◌∙◌, ap, subst, arith, append_assoc, append-nil}
use Rattle.std.proofs.Common.{length-append, Some, None, inl, inr, ◌⊎◌}
use Rattle.std.specs.Prelude.{if◌then◌else◌, map}
use Rattle.std.specs.List.{flat_map, cons_option}
use Rattle.std.specs.Option.{option_to_list, option_map_or}
use Rattle.std.specs.declared.option.Option.{Option}
use Rattle.order_meaning.specs.declared.Side.{Side}
use Rattle.order_meaning.specs.declared.names.Names.{Names}
use Rattle.pair_entries.specs.declared.entry.Out.{Out}
use Rattle.pair_entries.specs.declared.entry.Entry.{Entry}
use Rattle.kept_entries.specs.Numbers.{is_side, outs_to, Numbered}
use Rattle.event_decisions.specs.Event.{Event, Frame}
use Rattle.event_decisions.specs.Decide.{Repeat, Decision}
use Rattle.wires.specs.Wire.{WireCall, Connection}
use Rattle.life_laws.specs.Justified.{transcript_from, first_numbers_of, EachOnce, IsSublist}
use Rattle.life_laws.specs.Justified.{raw_of, tooks_of}
use Rattle.life_laws.specs.Forms.{Placed, all_placed, Form, form_frame, AreForms}
use Rattle.life_laws.specs.Sends.{Sends, Acts, Front}
use Rattle.life_laws.specs.Repeats.{repeat_forms, repeated_to}
use Rattle.life_laws.specs.Happens.{is_sent, first_form, firsts_to, forms_to, pieces_to, hangs}
use Rattle.life_laws.specs.Standing.{without_first, pending_after, IsNext, NumberedFrom, Standing}
use Rattle.life_laws.proofs.Grown.{if_yes, once-front, own_side, all_placed-append, shows_grow}
use Rattle.life_laws.proofs.Grown.{tooks-append, forms_join, firsts_are, numbers_in, once-more}
use Rattle.life_laws.proofs.Grown.{all-below, first_numbers-append, sublist-more, sublist-push}
use Rattle.life_laws.proofs.Line.{acts-keep, sent-keep}
use Rattle.life_laws.proofs.Repeats.{repeated_are, repeated_none}
use Rattle.life_laws.proofs.Decided.{Extends, same-side}

-- the outs of an entry stand behind those before
pub placed-push : (side : Side) (before : List Entry) (e : Entry)
    → all_placed side (before ++ e ∷ []) ≡ all_placed side before
    ++ map (λ out. record { out = out; at = e.at }) (outs_to side e.outs)
placed-push side before e = all_placed-append side before (e ∷ [])
    ∙ ap (λ l. all_placed side before
    ++ l) (append-nil (map (λ (out : Out). record { out = out; at = e.at }) (outs_to side e.outs)))

first_numbers-firsts : (at : ℕ) (outs : List Out) → first_numbers_of (map (first_form at) outs)
    ≡ numbers_in outs
first_numbers-firsts at [] = refl
first_numbers-firsts at (o ∷ outs) = ap (λ (l : List ℕ). o.number ∷ l)
    (first_numbers-firsts at outs)

-- the frame of an event, where it is this side's
abbrev pub dealt_with : Side → Event → List (List ℕ)
dealt_with side (Frame s body) = if is_side side s then body ∷ [] else []
dealt_with side event = []

-- it is the first that waits
pub split : (side : Side) (event : Event) (pending : List (List ℕ)) → IsNext side event pending
    → pending ≡ dealt_with side event ++ pending_after side event pending
split side event pending next = go event next
  where
    go : (e : Event) → IsNext side e pending → pending ≡ dealt_with side e
        ++ pending_after side e pending
    go (Frame s body) h = at (is_side side s) refl
      where
        at : (b : Bool) → is_side side s ≡ b → pending ≡ dealt_with side (Frame s body)
            ++ pending_after side (Frame s body) pending
        at true e =
            let is = h e in
            subst (λ p. p ≡ dealt_with side (Frame s body)
            ++ pending_after side (Frame s body) p) (sym is.1)
            (subst (λ b. body ∷ is.0 ≡ (if b then body ∷ [] else [])
            ++ (if b then is.0 else body ∷ is.0)) (sym e) refl)
        at false e = subst (λ b. pending ≡ (if b then body ∷ [] else [])
            ++ (if b then without_first pending else pending)) (sym e) refl
    go other h = refl

module _ (side : Side) (before : List Entry) (event : Event) (now : ℕ) (d : Decision)
    (adds : Extends before event now d) where
  abbrev after : List Entry
  after = before ++ option_to_list d.entry

  took-keep : (done : List (List ℕ)) → IsSublist (tooks_of side before) done
      → IsSublist (tooks_of side after) (done ++ dealt_with side event)
  took-keep done tooks = go d.entry refl
    where
      go : (o : Option Entry) → d.entry ≡ o → IsSublist (tooks_of side (before
          ++ option_to_list o)) (done ++ dealt_with side event)
      go None is = subst (λ l. IsSublist (tooks_of side l) (done
          ++ dealt_with side event)) (sym (append-nil before)) (sublist-more
          (tooks_of side before) done (dealt_with side event) tooks)
      go (Some e) is =
          subst (λ l. IsSublist l (done
          ++ dealt_with side event)) (sym (tooks-append side before (e ∷ []))) (at
          (adds.took side e is))
        where
          at : (raw_of side e.took ≡ None) ⊎ ((body : List ℕ) × (event ≡ Frame side body)
              × (raw_of side e.took ≡ Some body)) → IsSublist (tooks_of side before
              ++ tooks_of side (e ∷ [])) (done ++ dealt_with side event)
          at (inl none) =
              let nothing : tooks_of side (e ∷ []) ≡ [] = ap (λ o. cons_option o []) none in
              subst (λ l. IsSublist (tooks_of side before ++ l) (done
              ++ dealt_with side event)) (sym nothing)
              (subst (λ l. IsSublist l (done
              ++ dealt_with side event)) (sym (append-nil (tooks_of side before)))
              (sublist-more (tooks_of side before) done (dealt_with side event) tooks))
          at (inr own) =
              let body = own.0 in
              let one : tooks_of side (e ∷ []) ≡ body ∷ [] = ap (λ o. cons_option o []) own.2 in
              let dealt : dealt_with side event ≡ body ∷ [] = ap (dealt_with side) own.1
              ∙ if_yes (is_side side side) (body ∷ []) [] (own_side side) in
              subst (λ l. IsSublist (tooks_of side before ++ l) (done
              ++ dealt_with side event)) (sym one)
              (subst (λ l. IsSublist (tooks_of side before ++ body ∷ []) (done
              ++ l)) (sym dealt) (sublist-push (tooks_of side before) done body tooks))

  module _ (names : Names) where
    -- the entry stands, and nothing is sent yet
    pub grow : (links : List Connection) (up : Bool) (pending : List (List ℕ))
        → IsNext side event pending → Standing names before side links up pending
        → Standing names after side links up (pending_after side event pending)
    grow links up pending next s = record {
      forms = s.forms;
      shows = shows_grow side names before (option_to_list d.entry) links s.forms s.shows;
      once = s.once;
      whole = s.whole;
      done = s.done ++ dealt_with side event;
      bodies = s.bodies ∙ ap (λ l. s.done ++ l) (split side event pending next)
          ∙ sym (append_assoc s.done (dealt_with side event) (pending_after side event pending));
      tooks = took-keep s.done s.tooks;
    }

  -- what the event sends shows the journal with its entry
  firsts-are : (o : Option Entry) → d.entry ≡ o → AreForms (before
      ++ option_to_list o) side (option_map_or (λ entry. if is_sent side event d.sessions then map
      (first_form entry.at) (outs_to side entry.outs) else []) o [])
  firsts-are None is = tt
  firsts-are (Some e) is = at (is_sent side event d.sessions)
    where
      at : (b : Bool) → AreForms (before
          ++ e ∷ []) side (if b then map (first_form e.at) (outs_to side e.outs) else [])
      at true = firsts_are side (outs_to side e.outs) e.at (all_placed side before)
          (adds.numbered side e is) (before ++ e ∷ []) (placed-push side before e)
      at false = tt

  repeated-are : NumberedFrom 1 (all_placed side after) → AreForms after side
      (repeated_to side after now d.repeat)
  repeated-are numbered = go d.repeat refl
    where
      go : (o : Option Repeat) → d.repeat ≡ o → AreForms after side (repeated_to side after now o)
      go None is = tt
      go (Some r) is = at (is_side side r.side) refl
        where
          given : (q : Repeat) → d.repeat ≡ Some q → (1 ≤ q.from)
              × (q.to ≤ length (all_placed q.side after))
          given q e =
              let g = adds.given q e in
              let size : length (all_placed q.side after)
              ≡ length (all_placed q.side before) + length (all_placed q.side
              (option_to_list d.entry)) =
              ap length (all_placed-append q.side before (option_to_list d.entry))
              ∙ length-append (all_placed q.side before) (all_placed q.side
              (option_to_list d.entry)) in
              (g.0, omega (arith, g.1, size))

          at : (b : Bool) → is_side side r.side
              ≡ b → AreForms after side (if b then repeat_forms after side r.from r.to now else [])
          at true e = repeated_are after side numbered now d.repeat given r is e
              (same-side side r.side e)
          at false e = tt

  numbered-join : (m : ℕ) (xs ys : List Placed) → NumberedFrom m xs
      → NumberedFrom (length xs + m) ys → NumberedFrom m (xs ++ ys)
  numbered-join m [] ys h k = let e : length (let none : List Placed = [] in none) + m
      ≡ m = omega arith in subst (λ n. NumberedFrom n ys) e k
  numbered-join m (x ∷ xs) ys h k = let e : length (x ∷ xs) + m
      ≡ length xs + (m + 1) = omega arith in
      (h.0, numbered-join (m + 1) xs ys h.1 (subst (λ n. NumberedFrom n ys) e k))

  numbered-placed : (m at : ℕ) (outs : List Out) → Numbered m outs
      → NumberedFrom m (map (λ out. record { out = out; at = at }) outs)
  numbered-placed m at [] h = tt
  numbered-placed m at (o ∷ outs) h = (h.0, numbered-placed (m + 1) at outs h.1)

  -- the outs of a side go on being numbered 1, 2, 3
  pub numbered-keep : NumberedFrom 1 (all_placed side before)
      → NumberedFrom 1 (all_placed side after)
  numbered-keep numbered = go d.entry refl
    where
      go : (o : Option Entry) → d.entry ≡ o → NumberedFrom 1 (all_placed side (before
          ++ option_to_list o))
      go None is = subst (λ l. NumberedFrom 1 (all_placed side l)) (sym
          (append-nil before)) numbered
      go (Some e) is = subst (NumberedFrom 1) (sym (placed-push side before e))
          (numbered-join 1 (all_placed side before) (map (λ
          (out : Out). record { out = out; at = e.at }) (outs_to side e.outs)) numbered
          (numbered-placed (length (all_placed side before) + 1) e.at (outs_to side e.outs)
          (adds.numbered side e is)))

  module _ (names : Names) (links : List Connection) (up : Bool) (pending : List (List ℕ))
      (next : IsNext side event pending) (numbered : NumberedFrom 1 (all_placed side before))
      (s : Standing names before side links up pending) where
    abbrev called : List Form
    called = forms_to side after event now d

    called-are : AreForms after side called
    called-are = forms_join side after (repeated_to side after now d.repeat)
        (firsts_to side event d) (repeated-are (numbered-keep numbered)) (firsts-are d.entry refl)

    -- nothing is sent a second time under its number without being marked
    called-once : EachOnce (flat_map first_numbers_of s.forms ++ first_numbers_of called)
    called-once =
        let is : first_numbers_of called ≡ first_numbers_of (firsts_to side event d) =
        first_numbers-append (repeated_to side after now d.repeat) (firsts_to side event d)
        ∙ ap (λ l. l ++ first_numbers_of (firsts_to side event d))
        (repeated_none after side now d.repeat) in
        subst (λ l. EachOnce (flat_map first_numbers_of s.forms ++ l)) (sym is) (go d.entry refl)
      where
        go : (o : Option Entry) → d.entry ≡ o
            → EachOnce (flat_map first_numbers_of s.forms
            ++ first_numbers_of (option_map_or
            (λ entry. if is_sent side event d.sessions then map (first_form entry.at)
            (outs_to side entry.outs) else []) o []))
        go None is = subst EachOnce (sym (append-nil (flat_map first_numbers_of s.forms))) s.once
        go (Some e) is = at (is_sent side event d.sessions)
          where
            at : (b : Bool) → EachOnce (flat_map first_numbers_of s.forms
                ++ first_numbers_of (if b then map (first_form e.at) (outs_to side e.outs) else []))
            at true = subst (λ l. EachOnce (flat_map first_numbers_of s.forms
                ++ l)) (sym (first_numbers-firsts e.at (outs_to side e.outs)))
                (once-more (length (all_placed side before)) (flat_map first_numbers_of s.forms)
                (outs_to side e.outs)
                (all-below names side before links s.forms s.shows) s.once
                (adds.numbered side e is))
            at false = subst EachOnce (sym (append-nil (flat_map first_numbers_of s.forms))) s.once

    -- an event, whole
    pub acts-stand : (steps : List WireCall) (still : Bool)
        → Acts up (pieces_to names side after event now d) (hangs side d) steps still
        → Standing names after side (transcript_from links steps) still
        (pending_after side event pending)
    unfolding grow
    acts-stand steps still acts =
        acts-keep names side after called steps links up (hangs side d) still
        (pending_after side event pending) called-are
        (grow names links up pending next s) called-once acts

    -- an event that ended the life, of which a front was sent
    pub front-stand : (steps : List WireCall) (part : Front up
        (pieces_to names side after event now d) steps) → Standing names after side
        (transcript_from links steps) part.after (pending_after side event pending)
    unfolding grow
    front-stand steps part =
        let cut = fronts (form_frame names side) called part.front part.rest part.joined in
        let are : AreForms after side cut.0 = are-front cut.0 cut.1 (subst
        (AreForms after side) cut.2 called-are) in
        let numbers : first_numbers_of called ≡ first_numbers_of cut.0
        ++ first_numbers_of cut.1 = ap first_numbers_of cut.2
        ∙ first_numbers-append cut.0 cut.1 in
        let a = flat_map first_numbers_of s.forms in
        let each : EachOnce ((a ++ first_numbers_of cut.0) ++ first_numbers_of cut.1) =
        subst EachOnce (ap (λ l. a
        ++ l) numbers ∙ sym (append_assoc a (first_numbers_of cut.0)
        (first_numbers_of cut.1))) called-once in
        sent-keep names side after cut.0 steps links up part.after
        (pending_after side event pending) are (grow names links up pending next s)
        (once-front (a ++ first_numbers_of cut.0) (first_numbers_of cut.1) each)
        (subst (λ l. Sends up l steps part.after) cut.3 part.sends)
      where
        fronts : (T : Form → List ℕ) (fs : List Form) (front rest : List (List ℕ))
            → front ++ rest ≡ map T fs → (gs : List Form) × (hs : List Form) × (fs ≡ gs ++ hs)
            × (front ≡ map T gs)
        fronts T fs [] rest is = ([], fs, refl, refl)
        fronts T [] (x ∷ front) rest is = absurd (cc is)
        fronts T (f ∷ fs) (x ∷ front) rest is =
            let first : x ≡ T f = cc is in
            let more : front ++ rest ≡ map T fs = cc is in
            let later = fronts T fs front rest more in
            (f ∷ later.0, later.1, ap (λ (l : List Form). f ∷ l) later.2, cc (first, later.3))

        are-front : (xs ys : List Form) → AreForms after side (xs ++ ys) → AreForms after side xs
        are-front [] ys are = tt
        are-front (x ∷ xs) ys are = (are.0, are-front xs ys are.1)
