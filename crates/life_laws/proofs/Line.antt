-- What each step of a wire does to what was written and read on a side.
use Rattle.std.proofs.Common.{◌≡◌, ℕ, Bool, true, false, List, [], ◌∷◌, ◌++◌, take, drop, refl, sym}
use Rattle.std.proofs.Common.{◌∙◌, ap, subst, append_assoc, append-nil, take-append-drop, inl, inr}
use Rattle.std.specs.Prelude.{◌&&◌, if◌then◌else◌, map}
use Rattle.std.specs.List.{flat_map}
use Rattle.std.proofs.lemmas.Grind.{flat_map-append}
use Rattle.order_meaning.specs.declared.Side.{Side}
use Rattle.order_meaning.specs.declared.names.Names.{Names}
use Rattle.pair_entries.specs.declared.entry.Entry.{Entry}
use Rattle.wires.specs.Wire as wire
use Rattle.wires.specs.Wire.{WireCall, Connection, change_last, connections_after, add_written}
use Rattle.session_frames.specs.Frames.{kind_of}
use Rattle.life_laws.specs.Justified.{transcript_from, first_numbers_of, EachOnce, ShowsAll}
use Rattle.life_laws.specs.Bodies.{bodies_of, bodies_read}
use Rattle.life_laws.specs.Forms.{Form, form_frame, IsForm, AreForms}
use Rattle.life_laws.specs.Sends.{Sends, Acts}
use Rattle.life_laws.specs.Standing.{LastIsWhole, Standing}
use Rattle.life_laws.proofs.Grown.{once-front, first_numbers-append, forms_join}

-- a form more on the last connection
pub with_last : Form → List (List Form) → List (List Form)
with_last f [] = []
with_last f (fs ∷ []) = (fs ++ f ∷ []) ∷ []
with_last f (fs ∷ gs ∷ more) = fs ∷ with_last f (gs ∷ more)

bodies-write : (side : Side) (wrote : List ℕ) (links : List Connection)
    → bodies_read side (change_last (add_written wrote) links) ≡ bodies_read side links
bodies-write side wrote [] = refl
bodies-write side wrote (link ∷ []) = refl
bodies-write side wrote (link ∷ next ∷ links) = ap (λ l. bodies_of (kind_of side) link.read
    ++ l) (bodies-write side wrote (next ∷ links))

numbers-write : (f : Form) (fs : List Form) (more : List (List Form))
    → flat_map first_numbers_of (with_last f (fs ∷ more)) ≡ flat_map first_numbers_of (fs ∷ more)
    ++ first_numbers_of (f ∷ [])
unfolding with_last
numbers-write f fs [] =
    let a = first_numbers_of fs in
    let b = first_numbers_of (f ∷ []) in
    append-nil (first_numbers_of (fs ++ f ∷ [])) ∙ first_numbers-append fs (f ∷ [])
    ∙ ap (λ l. l ++ b) (sym (append-nil a))
numbers-write f fs (gs ∷ more) =
    ap (λ l. first_numbers_of fs ++ l) (numbers-write f gs more)
    ∙ sym (append_assoc (first_numbers_of fs) (flat_map first_numbers_of (gs ∷ more))
    (first_numbers_of (f ∷ [])))

pub links-both : (links : List Connection) (xs ys : List WireCall)
    → transcript_from links (xs ++ ys) ≡ transcript_from (transcript_from links xs) ys
links-both links [] ys = refl
links-both links (x ∷ xs) ys = links-both (connections_after links x) xs ys

module _ (names : Names) (side : Side) (entries : List Entry) where
  abbrev T : Form → List ℕ
  T f = form_frame names side f

  shows-write : (f : Form) (wrote missing : List ℕ) → wrote ++ missing ≡ T f
      → IsForm entries side f → (links : List Connection) (forms : List (List Form))
      → ShowsAll names entries side links forms → LastIsWhole T links forms
      → ShowsAll names entries side (change_last (add_written wrote) links) (with_last f forms)
  unfolding with_last
  shows-write f wrote missing is form [] forms shows whole = absurd whole
  shows-write f wrote missing is form (link ∷ links) [] shows whole = absurd shows
  shows-write f wrote missing is form (link ∷ []) (fs ∷ []) shows whole = (
    forms_join side entries fs (f ∷ []) shows.0 (form, tt),
    (
      missing,
      append_assoc link.written wrote missing ∙ ap (λ l. link.written ++ l) (is
          ∙ sym (append-nil (T f))) ∙ ap (λ l. l ++ (T f ++ [])) whole
          ∙ sym (flat_map-append T fs (f ∷ [])),
    ),
    tt,
  )
  shows-write f wrote missing is form (link ∷ []) (fs ∷ gs ∷ more) shows whole = absurd shows.2
  shows-write f wrote missing is form (link ∷ next ∷ links) (fs ∷ []) shows whole = absurd shows.2
  shows-write f wrote missing is form (link ∷ next ∷ links) (fs ∷ gs ∷ more) shows whole = (
    shows.0,
    shows.1,
    shows-write f wrote missing is form (next ∷ links) (gs ∷ more) shows.2 whole,
  )

  whole-write : (f : Form) (wrote : List ℕ) → wrote ≡ T f
      → (links : List Connection) (forms : List (List Form))
      → ShowsAll names entries side links forms → LastIsWhole T links forms
      → LastIsWhole T (change_last (add_written wrote) links) (with_last f forms)
  unfolding with_last
  whole-write f wrote is [] forms shows whole = absurd whole
  whole-write f wrote is (link ∷ links) [] shows whole = absurd shows
  whole-write f wrote is (link ∷ []) (fs ∷ []) shows whole =
      ap (λ l. l ++ wrote) whole ∙ ap (λ l. flat_map T fs ++ l) (is ∙ sym (append-nil (T f)))
      ∙ sym (flat_map-append T fs (f ∷ []))
  whole-write f wrote is (link ∷ []) (fs ∷ gs ∷ more) shows whole = absurd shows.2
  whole-write f wrote is (link ∷ next ∷ []) (fs ∷ []) shows whole = absurd shows.2
  whole-write f wrote is (link ∷ next ∷ other ∷ links) (fs ∷ []) shows whole = absurd shows.2
  whole-write f wrote is (link ∷ next ∷ []) (fs ∷ gs ∷ more) shows whole = whole-write f wrote is
      (next ∷ []) (gs ∷ more) shows.2 whole
  whole-write f wrote is (link ∷ next ∷ other ∷ links)
      (fs ∷ gs ∷ more) shows whole = whole-write f wrote is (next ∷ other ∷ links)
      (gs ∷ more) shows.2 whole

  numbers-whole : (f : Form) (links : List Connection) (forms : List (List Form))
      → LastIsWhole T links forms → flat_map first_numbers_of (with_last f forms)
      ≡ flat_map first_numbers_of forms ++ first_numbers_of (f ∷ [])
  numbers-whole f [] forms whole = absurd whole
  numbers-whole f (link ∷ links) [] whole = absurd whole
  numbers-whole f (link ∷ links) (fs ∷ more) whole = numbers-write f fs more

  -- a front of a form's text was written
  pub written : (links : List Connection) (up : Bool) (pending : List (List ℕ)) (f : Form)
      (wrote missing : List ℕ) (after : Bool) → IsForm entries side f
      → (s : Standing names entries side links true pending)
      → EachOnce (flat_map first_numbers_of s.forms ++ first_numbers_of (f ∷ []))
      → wrote ++ missing ≡ T f → (after ≡ true → wrote ≡ T f)
      → Standing names entries side (change_last (add_written wrote) links) after pending
  written links up pending f wrote missing after form s once is all =
      let whole = s.whole refl in
      record {
        forms = with_last f s.forms;
        shows = shows-write f wrote missing is form links s.forms s.shows whole;
        once = subst EachOnce (sym (numbers-whole f links s.forms whole)) once;
        whole = λ e. whole-write f wrote (all e) links s.forms s.shows whole;
        done = s.done;
        bodies = bodies-write side wrote links ∙ s.bodies;
        tooks = s.tooks;
      }

  -- sends keep what stands, whether the last of them fails or not
  pub sent-keep : (fs : List Form) (steps : List WireCall) (links : List Connection)
      (up after : Bool) (pending : List (List ℕ)) → AreForms entries side fs
      → (s : Standing names entries side links up pending)
      → EachOnce (flat_map first_numbers_of s.forms ++ first_numbers_of fs)
      → Sends up (map T fs) steps after → Standing names entries side
      (transcript_from links steps) after pending
  unfolding written with_last
  sent-keep [] steps links true after pending are s once sends =
      subst (λ a. Standing names entries side (transcript_from links steps) a pending)
      (sym sends.1) (subst (λ l. Standing names entries side
      (transcript_from links l) true pending) (sym sends.0) s)
  sent-keep [] steps links false after pending are s once sends =
      subst (λ a. Standing names entries side (transcript_from links steps) a pending)
      (sym sends.1) (subst (λ l. Standing names entries side
      (transcript_from links l) false pending) (sym sends.0) s)
  sent-keep (f ∷ fs) steps links false after pending are s once sends =
      subst (λ a. Standing names entries side (transcript_from links steps) a pending)
      (sym sends.1) (subst (λ l. Standing names entries side
      (transcript_from links l) false pending) (sym sends.0) s)
  sent-keep (f ∷ fs) steps links true after pending are s once (inl more) =
      let a = flat_map first_numbers_of s.forms in
      let split : a ++ first_numbers_of (f ∷ fs) ≡ (a ++ first_numbers_of (f ∷ []))
      ++ first_numbers_of fs =
      ap (λ l. a ++ l) (first_numbers-append (f ∷ []) fs)
      ∙ sym (append_assoc a (first_numbers_of (f ∷ [])) (first_numbers_of fs)) in
      let each = subst EachOnce split once in
      let one = once-front (a ++ first_numbers_of (f ∷ [])) (first_numbers_of fs) each in
      let next = written links true pending f (T f) [] true are.0 s one (append-nil (T f))
      (λ e. refl) in
      let numbers : flat_map first_numbers_of next.forms ≡ a
      ++ first_numbers_of (f ∷ []) = numbers-whole f links s.forms (s.whole refl) in
      let rest = sent-keep fs more.0 (change_last (add_written
      (T f)) links) true after pending are.1 next (subst (λ l. EachOnce (l
      ++ first_numbers_of fs)) (sym numbers) each) more.2 in
      subst (λ l. Standing names entries side (transcript_from links l) after pending)
      (sym more.1) rest
  sent-keep (f ∷ fs) steps links true after pending are s once (inr cut) =
      let n = cut.0 in
      let a = flat_map first_numbers_of s.forms in
      let split : a ++ first_numbers_of (f ∷ fs) ≡ (a ++ first_numbers_of (f ∷ []))
      ++ first_numbers_of fs =
      ap (λ l. a ++ l) (first_numbers-append (f ∷ []) fs)
      ∙ sym (append_assoc a (first_numbers_of (f ∷ [])) (first_numbers_of fs)) in
      let one = once-front (a
      ++ first_numbers_of (f ∷ [])) (first_numbers_of fs) (subst EachOnce split once) in
      let next = written links true pending f (take n (T f)) (drop n (T f)) false are.0 s one
      (take-append-drop n (T f)) (λ e. absurd (cc e)) in
      subst (λ a. Standing names entries side (transcript_from links steps) a pending) (sym cut.2)
      (subst (λ l. Standing names entries side (transcript_from links l) false pending)
      (sym cut.1) next)

  -- a connection that has ended, or whose state is not told
  pub ended : (links : List Connection) (up : Bool) (pending : List (List ℕ))
      → Standing names entries side links up pending → Standing names entries side links false
      pending
  ended links up pending s = record {
    forms = s.forms;
    shows = s.shows;
    once = s.once;
    whole = λ e. absurd (cc e);
    done = s.done;
    bodies = s.bodies;
    tooks = s.tooks;
  }

  -- all that an event does on one wire
  pub acts-keep : (fs : List Form) (steps : List WireCall) (links : List Connection)
      (up hang_up after : Bool) (pending : List (List ℕ)) → AreForms entries side fs
      → (s : Standing names entries side links up pending)
      → EachOnce (flat_map first_numbers_of s.forms ++ first_numbers_of fs)
      → Acts up (map T fs) hang_up steps after → Standing names entries side
      (transcript_from links steps) after pending
  acts-keep fs steps links up hang_up after pending are s once acts =
      let sent = sent-keep fs acts.sent links up acts.still pending are s once acts.sends in
      subst (λ a. Standing names entries side (transcript_from links steps) a pending)
      (sym acts.ends)
      (subst (λ l. Standing names entries side (transcript_from links l)
      (if hang_up then false else acts.still) pending) (sym acts.all)
      (go hang_up acts.still acts.sent sent))
    where
      go : (h still : Bool) (sent : List WireCall) → Standing names entries side
          (transcript_from links sent) still pending
          → Standing names entries side (transcript_from links (sent
          ++ (if still && h then wire.HangUp ∷ [] else [])))
          (if h then false else still) pending
      go true true sent st =
          subst (λ l. Standing names entries side l false pending) (sym (links-both links sent
          (wire.HangUp ∷ []))) (ended (transcript_from links sent) true pending st)
      go true false sent st = subst (λ l. Standing names entries side
          (transcript_from links l) false pending) (sym (append-nil sent)) st
      go false true sent st = subst (λ l. Standing names entries side
          (transcript_from links l) true pending) (sym (append-nil sent)) st
      go false false sent st = subst (λ l. Standing names entries side
          (transcript_from links l) false pending) (sym (append-nil sent)) st
