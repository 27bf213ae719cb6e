-- What the entry of a decision is.
use Rattle.std.proofs.Common.{◌≡◌, ◌≤◌, ℕ, ◌+◌, arith, Bool, true, false, ◌||◌, ◌&&◌}
use Rattle.std.proofs.Common.{List, [], ◌∷◌, ◌++◌, ◌⊎◌}
use Rattle.std.proofs.Common.{Option, Some, None, refl, sym, ap, ◌∙◌, subst, inl, inr, Ok, Err}
use Rattle.std.proofs.Common.{append-nil}
use Rattle.std.specs.Prelude.{Result}
use Rattle.order_meaning.specs.declared.Side.{Side}
use Rattle.order_meaning.specs.declared.Side.TheVariants.{Client, Venue}
use Rattle.order_meaning.specs.declared.names.Names.{Names}
use Rattle.session_core.specs.declared.act.Act.{Act}
use Rattle.session_core.specs.declared.act.Act.TheVariants.{Take, Skip, Say, Resend, HangUp}
use Rattle.session_core.specs.declared.act.Admin.TheVariants as admin
use Rattle.session_core.specs.declared.head.Head.{Head}
use Rattle.session_core.specs.declared.head.What.{What}
use Rattle.session_core.specs.declared.session.Session.{Session}
use Rattle.session_core.specs.declared.session.Step.{Step}
use Rattle.session_core.specs.Table as session
use Rattle.session_logon.specs.Content.{said, is_admin}
use Rattle.session_logon.specs.Head.{number_in}
use Rattle.pair_entries.specs.declared.entry.Took.{Took}
use Rattle.pair_entries.specs.declared.entry.Out.{Out}
use Rattle.pair_entries.specs.declared.entry.Entry.{Entry}
use Rattle.kept_entries.specs.Numbers.{Takes, Taking, next_in}
use Rattle.pair_entries.specs.Payload.{Next}
use Rattle.event_decisions.specs.Body.{type_of, fields_of}
use Rattle.event_decisions.specs.Event.{Event, Opened, Frame, Closed, Tick, End, side_of}
use Rattle.event_decisions.specs.Decide.{Sessions, Asked, Words, Decision, Heard, asks}
use Rattle.event_decisions.specs.Decide.{session_of, with_session, numbers_of, asked_of, asked_by}
use Rattle.event_decisions.specs.Decide.{asked_if, says_of, out_of, took_if, takes}
use Rattle.event_decisions.specs.Decide.{Given}
use Rattle.event_decisions.specs.Decide.{is_for_application, input_of, head_in, heard_in, stepped}
use Rattle.event_decisions.specs.Laws.{IsMade, Answers, Rejects, Breaking, Rests, Makes}
use Rattle.event_decisions.specs.Laws.{DecisionsMake, Breaks, AreAdmin, IsOfSession}
use Rattle.event_decisions.specs.Laws.{AreWords, IsNumbered, IsSilent, asked_about, taking_of}
use Rattle.event_decisions.specs.Laws.{taking_by, counts, is_breaking, what_of}
use Rattle.event_decisions.proofs.Acts.{Tells, Gets, Rejected, Broken, Sessions as OfSession}
use Rattle.event_decisions.proofs.Acts.{says_admin, says_break, WasExpected}
use Rattle.event_decisions.proofs.Steps.{IsStep, TakesExpected}
use Rattle.event_decisions.proofs.Goes.{IsGiven}
use Rattle.event_decisions.proofs.Continues.{IsBy, by, entry_by, entry_is, own_outs}

-- ---- messages of a session

admin_outs : (side : Side) (heart : ℕ) (h : Heard) (n : ℕ) (acts : List Act)
    → says_admin acts ≡ true → AreAdmin (says_of side heart h n acts)
admin_outs side heart h n [] is = tt
admin_outs side heart h n (Say a ∷ acts) is =
    by (is_admin a) refl is (admin_outs side heart h (n + 1) acts)
  where
    by : (b : Bool) → is_admin a ≡ b → (b && says_admin acts) ≡ true
        → (says_admin acts ≡ true → AreAdmin (says_of side heart h (n + 1) acts))
        → AreAdmin (says_of side heart h n (Say a ∷ acts))
    by true at rest later = (at, later rest)
    by false at rest later = absurd (cc rest)
admin_outs side heart h n (Take ∷ acts) is = admin_outs side heart h n acts is
admin_outs side heart h n (Skip ∷ acts) is = admin_outs side heart h n acts is
admin_outs side heart h n (Resend from to ∷ acts) is = admin_outs side heart h n acts is
admin_outs side heart h n (HangUp ∷ acts) is = admin_outs side heart h n acts is

-- ---- a Reject that breaks

broken_outs : (side : Side) (heart : ℕ) (h : Heard) (n : ℕ) (acts : List Act) (more : List Out)
    → says_break acts ≡ true → Breaks (says_of side heart h n acts ++ more)
broken_outs side heart h n [] more is = absurd (cc is)
broken_outs side heart h n (Say (admin.Reject tag reason) ∷ acts) more is =
    by (is_breaking tag reason) refl is (broken_outs side heart h (n + 1) acts more)
  where
    by : (b : Bool) → is_breaking tag reason ≡ b → (b || says_break acts) ≡ true
        → (says_break acts ≡ true → Breaks (says_of side heart h (n + 1) acts ++ more))
        → Breaks (says_of side heart h n (Say (admin.Reject tag reason) ∷ acts) ++ more)
    by true at rest later = inl (record {
      tag = tag;
      reason = reason;
      named = h.number;
      msg_type = h.msg_type;
      breaks = at;
      is = refl;
    })
    by false at rest later = inr (later rest)
broken_outs side heart h n (Say (admin.Logon reset) ∷ acts) more is =
    inr (broken_outs side heart h (n + 1) acts more is)
broken_outs side heart h n (Say (admin.Logout reason) ∷ acts) more is =
    inr (broken_outs side heart h (n + 1) acts more is)
broken_outs side heart h n (Say (admin.Heartbeat echo) ∷ acts) more is =
    inr (broken_outs side heart h (n + 1) acts more is)
broken_outs side heart h n (Say admin.TestRequest ∷ acts) more is =
    inr (broken_outs side heart h (n + 1) acts more is)
broken_outs side heart h n (Say (admin.ResendRequest from) ∷ acts) more is =
    inr (broken_outs side heart h (n + 1) acts more is)
broken_outs side heart h n (Take ∷ acts) more is = broken_outs side heart h n acts more is
broken_outs side heart h n (Skip ∷ acts) more is = broken_outs side heart h n acts more is
broken_outs side heart h n (Resend from to ∷ acts) more is =
    broken_outs side heart h n acts more is
broken_outs side heart h n (HangUp ∷ acts) more is = broken_outs side heart h n acts more is

-- ---- whether the application is asked

asks_none : (head : Head) (acts : List Act)
    → (takes acts ≡ true → is_for_application head.what ≡ false)
    → asks (session.Message head) acts ≡ false
asks_none head [] is = refl
asks_none head (Take ∷ []) is = is refl
asks_none head (Take ∷ act ∷ acts) is = refl
asks_none head (Skip ∷ acts) is = refl
asks_none head (Say a ∷ acts) is = refl
asks_none head (Resend from to ∷ acts) is = refl
asks_none head (HangUp ∷ acts) is = refl

-- words that answer nothing are none
no_words : (asked : Option Asked) (words : Option Words) → IsSilent asked words → asked ≡ None
    → words ≡ None
no_words None words silent is = silent
no_words (Some asked) words silent is = absurd (cc is)

no_outs : (words : Option Words) (outs : List Out) → AreWords words outs → words ≡ None → outs ≡ []
no_outs None outs are is = are
no_outs (Some words) outs are is = absurd (cc is)

not_asked : (took : Option Took) → asked_if false took ≡ None
not_asked took = refl

-- ---- the entry of a frame

-- what is taken has the number of its body
some_number : (w : What) (number : Option ℕ) (before : ℕ) (t : Step)
    → TakesExpected w number before t → takes t.acts ≡ true → (n : ℕ) × (number ≡ Some n)
some_number w None before t expected some = absurd (cc (expected, some))
some_number w (Some n) before t expected some = (n, refl)

number_is : (number : Option ℕ) (n : ℕ) → number ≡ Some n → (head : Head) → head.number ≡ number
    → session.number_of (session.Message head) ≡ n
number_is number n some head is = rw (is ∙ some) refl

took_is : (b : Bool) (side : Side) (body : List ℕ) (number : Option ℕ) (n : ℕ) → b ≡ true
    → number ≡ Some n
    → took_if b side body number ≡ Some (record { side = side; number = n; raw = body })
took_is b side body number n some is = rw (some, is) refl

session_took : (side : Side) (body : List ℕ) (b : Bool) (number : Option ℕ)
    → (b ≡ true → is_for_application (what_of side body) ≡ false)
    → IsOfSession (took_if b side body number)
session_took side body true (Some n) is = is refl
session_took side body true None is = tt
session_took side body false number is = tt

numbered_took : (side : Side) (body : List ℕ) (b : Bool) (number : Option ℕ)
    → number ≡ number_in (fields_of body) → IsNumbered (took_if b side body number)
numbered_took side body true (Some n) is = sym is
numbered_took side body true None is = tt
numbered_took side body false number is = tt

-- what the application gets
asked_is : (b : Bool) (took : Option Took) (x : Took) → b ≡ true → took ≡ Some x
    → asked_if b took ≡ Some (asked_about x)
asked_is b took x some is = rw (some, is) refl

-- what is known of the entry of a frame
record IsFramed (names : Names) (window : ℕ) (s : Sessions) (now : ℕ) (words : Option Words)
    (side : Side) (body : List ℕ) (t : Step) (given : List Out) : Type 0 where
  tells : Tells (head_in names window side body now).what t.acts
  expected : TakesExpected (head_in names window side body now).what
      (head_in names window side body now).number (session_of side s).numbers.next_in t
  words_are : AreWords words given
  silent : IsSilent (asked_if (asks (session.Message (head_in names window side body now)) t.acts)
      (took_if (takes t.acts) side body (head_in names window side body now).number)) words

frame_made : (names : Names) (window : ℕ) (s : Sessions) (now : ℕ) (words : Option Words)
    (side : Side) (body : List ℕ) (t : Step) (given : List Out) (next : Next)
    → IsFramed names window s now words side body t given
    → IsMade (asked_if (asks (session.Message (head_in names window side body now)) t.acts)
    (took_if (takes t.acts) side body (head_in names window side body now).number)) words
    (record {
      at = now;
      reset = false;
      took = took_if (takes t.acts) side body (head_in names window side body now).number;
      next = next;
      outs = own_outs names window s (Frame side body) now t ++ given;
    })
frame_made names window s now words side body t given next f = by t.acts refl f.tells
  where
    head : Head
    head = head_in names window side body now

    asked : Option Asked
    asked = asked_if (asks (session.Message head) t.acts)
        (took_if (takes t.acts) side body head.number)

    e : Entry
    e = record {
      at = now;
      reset = false;
      took = took_if (takes t.acts) side body head.number;
      next = next;
      outs = own_outs names window s (Frame side body) now t ++ given;
    }

    h : Heard
    h = heard_in (Frame side body) (session.Message head)

    no_given : asks (session.Message head) t.acts ≡ false → given ≡ []
    no_given none = no_outs words given f.words_are (no_words asked words f.silent
        (ap (λ b. asked_if b (took_if (takes t.acts) side body head.number)) none))

    outs_none : given ≡ [] → e.outs ≡ own_outs names window s (Frame side body) now t
    outs_none none = ap (λ g. own_outs names window s (Frame side body) now t ++ g) none
        ∙ append-nil (own_outs names window s (Frame side body) now t)

    by : (acts : List Act) → t.acts ≡ acts → Tells head.what t.acts → IsMade asked words e
    by acts same (Gets are is) =
        let some : takes t.acts ≡ true = ap takes are in
        let n = some_number head.what head.number (session_of side s).numbers.next_in t f.expected
        some in
        let took : Took = record { side = side; number = n.0; raw = body } in
        let is_took : e.took ≡ Some took =
        took_is (takes t.acts) side body head.number n.0 some n.1 in
        let asks_it : asks (session.Message head) t.acts ≡ true =
        ap (asks (session.Message head)) are ∙ is in
        Answers took is_took (asked_is (asks (session.Message head) t.acts) e.took took asks_it
        is_took) (subst (AreWords words)
        (sym (ap (λ (l : List Act). says_of side t.next.heart h
        (session_of side s).numbers.next_out l ++ given) are)) f.words_are)
    by acts same (Rejected tag reason faulty are) =
        let some : takes t.acts ≡ true = ap takes are in
        let n = some_number head.what head.number (session_of side s).numbers.next_in t f.expected
        some in
        let took : Took = record { side = side; number = n.0; raw = body } in
        let asks_none : asks (session.Message head) t.acts ≡ false =
        ap (asks (session.Message head)) are in
        Rejects took (session_of side s).numbers.next_out tag reason
        (took_is (takes t.acts) side body head.number n.0 some n.1) faulty
        (outs_none (no_given asks_none)
        ∙ ap (says_of side t.next.heart h (session_of side s).numbers.next_out) are
        ∙ ap (λ (m : ℕ). out_of side (session_of side s).numbers.next_out false
        (said side (admin.Reject tag reason) 0 (session_of side s).numbers.next_out m (type_of body)
        []) ∷ []) (number_is head.number n.0 n.1 head refl))
    by acts same (Broken is) =
        Breaking (broken_outs side t.next.heart h (session_of side s).numbers.next_out t.acts given
        is)
    by acts same (OfSession is says) =
        Rests (session_took side body (takes t.acts) head.number is)
        (subst AreAdmin (sym (outs_none (no_given (asks_none head t.acts is))))
        (admin_outs side t.next.heart h (session_of side s).numbers.next_out t.acts says))

-- what is taken goes on
in_of_side : (side : Side) (s : Sessions)
    → next_in side (numbers_of s) ≡ (session_of side s).numbers.next_in
in_of_side Client s = refl
in_of_side Venue s = refl

in_of_next : (side : Side) (next : Session) (s : Sessions)
    → next_in side (numbers_of (with_session side next s)) ≡ next.numbers.next_in
in_of_next Client next s = refl
in_of_next Venue next s = refl

-- the took of an entry with these numbers around it
abbrev TakenBy : (Side → List ℕ → Taking) → Option Took → Next → Next → Type 0
TakenBy taking took before after = elim took [
  | None ↦ Unit {0}
  | Some took ↦ Takes (taking took.side took.raw)
      took.number (next_in took.side before) (next_in took.side after)
]

frame_taken : (side : Side) (body : List ℕ) (b : Bool) (number : Option ℕ) (w : What)
    (acts : List Act) (before after : Next) (outs : List Out)
    → ((n : ℕ) → number ≡ Some n → b ≡ true
    → WasExpected w n (next_in side before) (next_in side after) acts)
    → taking_of side body ≡ taking_by w → (says_break acts ≡ true → Breaks outs)
    → TakenBy taking_of (took_if b side body number) before after
    ⊎ (TakenBy counts (took_if b side body number) before after × Breaks outs)
frame_taken side body true None w acts before after outs expected is breaks = inl tt
frame_taken side body false number w acts before after outs expected is breaks = inl tt
frame_taken side body true (Some n) w acts before after outs expected is breaks =
    by (expected n refl refl)
  where
    by : WasExpected w n (next_in side before) (next_in side after) acts
        → TakenBy taking_of (Some (record { side = side; number = n; raw = body })) before after
        ⊎ (TakenBy counts (Some (record { side = side; number = n; raw = body })) before after
        × Breaks outs)
    by (inl takes) = inl (subst (λ (t : Taking). Takes t n (next_in side before)
        (next_in side after)) (sym is) takes.0)
    by (inr one) = inr ((one.0, one.1), breaks one.2)

expected_of : (w : What) (number : Option ℕ) (before : ℕ) (t : Step)
    → TakesExpected w number before t → (n : ℕ) → number ≡ Some n → takes t.acts ≡ true
    → WasExpected w n before t.next.numbers.next_in t.acts
expected_of w None before t expected n is some = absurd (cc is)
expected_of w (Some m) before t expected n is some =
    let same : m ≡ n = cc is in
    subst (λ (k : ℕ). WasExpected w k before t.next.numbers.next_in t.acts) same (expected some)

-- no number that is expected goes down
low_of : (w : What) (number : Option ℕ) (before : ℕ) (t : Step) (b : Bool) → takes t.acts ≡ b
    → (takes t.acts ≡ false → t.next.numbers.next_in ≡ before) → TakesExpected w number before t
    → before ≤ t.next.numbers.next_in
low_of w number before t false none stays expected = omega (arith, stays none)
low_of w None before t true some stays expected = absurd (cc (some, expected))
low_of w (Some n) before t true some stays expected = elim (expected some) [
  | inl takes ↦ takes.1
  | inr one ↦ omega (arith, one.0, one.1)
]

rises_by : (side at : Side) (s : Sessions) (next : Session) (after : Next)
    → next_in side after ≡ next_in side (numbers_of (with_session at next s))
    → (session_of at s).numbers.next_in ≤ next.numbers.next_in
    → next_in side (numbers_of s) ≤ next_in side after
rises_by Client Client s next after same low = omega (arith, same, low)
rises_by Client Venue s next after same low = omega (arith, same)
rises_by Venue Client s next after same low = omega (arith, same)
rises_by Venue Venue s next after same low = omega (arith, same, low)

-- ---- every entry

abbrev entry_of : Result Decision Side → Option Entry
entry_of (Ok d) = d.entry
entry_of (Err side) = None

-- the entry of an event that is no frame
none_made : (asked : Option Asked) (words : Option Words) (w : What) (e : Entry) (acts : List Act)
    (own given : List Out) → e.took ≡ None → e.outs ≡ own ++ given → given ≡ []
    → takes acts ≡ false → Tells w acts → (says_admin acts ≡ true → AreAdmin own)
    → (says_break acts ≡ true → Breaks (own ++ given)) → IsMade asked words e
none_made asked words w e acts own given took outs none idle (Gets are is) admins breaks =
    absurd (cc (ap takes are, idle))
none_made asked words w e acts own given took outs none idle (Rejected tag reason faulty are)
    admins breaks = absurd (cc (ap takes are, idle))
none_made asked words w e acts own given took outs none idle (Broken is) admins breaks =
    Breaking (subst Breaks (sym outs) (breaks is))
none_made asked words w e acts own given took outs none idle (OfSession is says) admins breaks =
    Rests (subst IsOfSession (sym took) tt) (subst AreAdmin (sym (outs
    ∙ ap (λ (g : List Out). own ++ g) none ∙ append-nil own)) (admins says))

abbrev MakesAt : Names → ℕ → Sessions → ℕ → Option Words → Event → Step → Entry → Type 0
MakesAt names window s now words event t e =
    Makes s (asked_by event (input_of names window event now) (Ok t)) words e

made_none : (s : Sessions) (words : Option Words) (w : What) (side : Side) (heart : ℕ) (h : Heard)
    (n : ℕ) (t : Step) (given : List Out) (e : Entry)
    → ((x : Side) → next_in x (numbers_of s) ≤ next_in x e.next) → e.took ≡ None
    → e.outs ≡ says_of side heart h n t.acts ++ given → AreWords words given → words ≡ None
    → takes t.acts ≡ false → Tells w t.acts → Makes s None words e
made_none s words w side heart h n t given e rises took outs are none idle tells = record {
  made = none_made None words w e t.acts (says_of side heart h n t.acts) given took outs
      (no_outs words given are none) idle tells (admin_outs side heart h n t.acts)
      (broken_outs side heart h n t.acts given);
  taken = inl (rw took tt);
  numbered = rw took tt;
  rises = rises;
}

rises_at : (names : Names) (window : ℕ) (s : Sessions) (now : ℕ) (words : Option Words)
    (event : Event) (t : Step) (g : Given)
    → IsStep (session_of (side_of event) s) (input_of names window event now) t
    → IsGiven (with_session (side_of event) t.next s) words g
    → (x : Side) → next_in x (numbers_of s) ≤ next_in x (numbers_of g.sessions)
rises_at names window s now words event t g step given x =
    rises_by x (side_of event) s t.next (numbers_of g.sessions) (given.stays x)
    (low_of _ _ (session_of (side_of event) s).numbers.next_in t (takes t.acts) refl step.stays
    step.expected)

made_at : (names : Names) (window : ℕ) (s : Sessions) (now : ℕ) (words : Option Words)
    (event : Event) (t : Step) (g : Given)
    → IsStep (session_of (side_of event) s) (input_of names window event now) t
    → IsGiven (with_session (side_of event) t.next s) words g
    → IsSilent (asked_by event (input_of names window event now) (Ok t)) words
    → MakesAt names window s now words event t (entry_by names window s event now t g)
made_at names window s now words (Frame side body) t g step given silent =
    let head : Head = head_in names window side body now in
    let e : Entry = entry_by names window s (Frame side body) now t g in
    let after : next_in side e.next ≡ t.next.numbers.next_in =
    given.stays side ∙ in_of_next side t.next s in
    record {
      made = frame_made names window s now words side body t g.outs e.next (record {
        tells = step.tells;
        expected = step.expected;
        words_are = given.gives;
        silent = silent;
      });
      taken = frame_taken side body (takes t.acts) head.number head.what t.acts (numbers_of s)
          e.next e.outs (λ n is some. rw (in_of_side side s, after)
          (expected_of head.what head.number (session_of side s).numbers.next_in t
          step.expected n is some))
          refl (broken_outs side t.next.heart (heard_in (Frame side body) (session.Message head))
          (session_of side s).numbers.next_out t.acts g.outs);
      numbered = numbered_took side body (takes t.acts) head.number refl;
      rises = rises_at names window s now words (Frame side body) t g step given;
    }
made_at names window s now words (Opened side) t g step given silent =
    made_none s words _ side t.next.heart (heard_in (Opened side) session.Opened) _ t g.outs _
    (rises_at names window s now words (Opened side) t g step given) refl refl
    given.gives silent step.expected step.tells
made_at names window s now words (Closed side) t g step given silent =
    made_none s words _ side t.next.heart (heard_in (Closed side) session.Closed) _ t g.outs _
    (rises_at names window s now words (Closed side) t g step given) refl refl
    given.gives silent step.expected step.tells
made_at names window s now words (Tick side) t g step given silent =
    made_none s words _ side t.next.heart (heard_in (Tick side) session.Tick) _ t g.outs _
    (rises_at names window s now words (Tick side) t g step given) refl refl
    given.gives silent step.expected step.tells
made_at names window s now words (End side) t g step given silent =
    made_none s words _ side t.next.heart (heard_in (End side) session.End) _ t g.outs _
    (rises_at names window s now words (End side) t g step given) refl refl
    given.gives silent step.expected step.tells

pub decisions_make : DecisionsMake
decisions_make names window s event now words d e are silent decided is =
    let b : IsBy names window s event now words d = by names window s event now words d decided in
    let input : session.Input = input_of names window event now in
    let asked : asked_of names window s event now ≡ asked_by event input (Ok b.step) =
    ap (asked_by event input) b.stepped in
    let made : Entry = entry_by names window s event now b.step b.given in
    let same : made ≡ e = entry_is (numbers_of s) made e (ap (λ (x : Result Decision Side).
    entry_of x) b.is ∙ is) in
    rw asked (subst (Makes s (asked_by event input (Ok b.step)) words) same
    (made_at names window s now words event b.step b.given b.is_step b.is_given
    (subst (λ (o : Option Asked). IsSilent o words) asked silent)))
