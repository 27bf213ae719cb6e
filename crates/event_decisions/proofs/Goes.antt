-- How a decision continues the numbers.
use Rattle.std.proofs.Common.{◌≡◌, ℕ, ◌+◌, ◌-◌, Bool, true, false, List, []}
use Rattle.std.proofs.Common.{◌∷◌, ◌++◌, length, Option, Some, None, refl, sym, ap, ◌∙◌, arith}
use Rattle.std.proofs.Common.{if◌then◌else◌, subst, Ok, Err, length-append}
use Rattle.std.specs.Prelude.{Result, cond}
use Rattle.std.proofs.lemmas.List.Recursion.{is_count_by}
use Rattle.order_meaning.specs.declared.Side.{Side}
use Rattle.order_meaning.specs.declared.Side.TheVariants.{Client, Venue}
use Rattle.order_meaning.specs.declared.names.Names.{Names}
use Rattle.session_core.specs.declared.session.Session.{Session}
use Rattle.session_core.specs.declared.session.Step.{Step}
use Rattle.session_core.specs.declared.act.Act.{Act}
use Rattle.session_core.specs.declared.act.Act.TheVariants.{Take, Skip, Say, Resend, HangUp}
use Rattle.session_core.specs.declared.head.Head.{Head}
use Rattle.session_core.specs.declared.head.What.{What}
use Rattle.session_core.specs.declared.said.Said.{Said}
use Rattle.session_core.specs.Table as session
use Rattle.session_core.specs.Table.{says}
use Rattle.session_logon.specs.Content.{said}
use Rattle.pair_entries.specs.declared.entry.Took.{Took}
use Rattle.pair_entries.specs.declared.entry.Out.{Out}
use Rattle.kept_entries.specs.Numbers.{is_side, outs_to, Numbered}
use Rattle.kept_entries.specs.Numbers.{next_in, next_out}
use Rattle.pair_entries.specs.Payload.{Next}
use Rattle.event_decisions.specs.Event.{Event, Opened, Frame, Closed, Tick, End, side_of}
use Rattle.event_decisions.specs.Decide.{Sessions, AreSides, session_of, with_session, numbers_of}
use Rattle.event_decisions.specs.Decide.{Heard, says_of, out_of, Words, Given, give}
use Rattle.event_decisions.specs.Decide.{numbered, took_of, took_if, takes, input_of, head_in}
use Rattle.event_decisions.specs.Laws.{AreWords}
use Rattle.event_decisions.proofs.Steps.{IsStep, TakesExpected}

-- ---- outs that go on

-- these outs of a side lead from its next number to the next
pub record Goes (x : Side) (before : Next) (outs : List Out) (after : Next) : Type 0 where
  pub numbered : Numbered (next_out x before) (outs_to x outs)
  pub next : next_out x after ≡ next_out x before + length (outs_to x outs)

pub outs_to-append : (x : Side) (a b : List Out) → outs_to x (a ++ b) ≡ outs_to x a ++ outs_to x b
outs_to-append x [] b = refl
outs_to-append x (out ∷ a) b = by (is_side x out.side) (outs_to-append x a b)
  where
    by : (c : Bool) → outs_to x (a ++ b) ≡ outs_to x a ++ outs_to x b
        → cond c (out ∷ outs_to x (a ++ b)) (outs_to x (a ++ b))
        ≡ cond c (out ∷ outs_to x a) (outs_to x a) ++ outs_to x b
    by true same = ap (λ outs. out ∷ outs) same
    by false same = same

numbered-append : (n : ℕ) (a b : List Out) → Numbered n a → Numbered (n + length a) b
    → Numbered n (a ++ b)
numbered-append n [] b first rest = subst (λ (k : ℕ). Numbered k b) (omega arith) rest
numbered-append n (out ∷ a) b first rest = (
  first.0,
  numbered-append (n + 1) a b first.1
      (subst (λ (k : ℕ). Numbered k b) (omega arith) rest),
)

pub goes-append : (x : Side) (before mid after : Next) (a b : List Out)
    → Goes x before a mid → Goes x mid b after → Goes x before (a ++ b) after
goes-append x before mid after a b first rest =
    let both : outs_to x (a ++ b) ≡ outs_to x a ++ outs_to x b = outs_to-append x a b in
    record {
      numbered = subst (Numbered (next_out x before)) (sym both)
          (numbered-append (next_out x before) (outs_to x a) (outs_to x b) first.numbered
          (subst (λ (k : ℕ). Numbered k (outs_to x b)) first.next rest.numbered));
      next = omega (
        arith,
        first.next,
        rest.next,
        length-append (outs_to x a) (outs_to x b),
        ap length both,
      );
    }

none_go : (x : Side) (before : Next) → Goes x before [] before
none_go x before = record { numbered = tt; next = omega arith }

-- ---- the messages of a session

says_numbered : (side : Side) (heart : ℕ) (h : Heard) (n : ℕ) (acts : List Act)
    → Numbered n (says_of side heart h n acts)
says_numbered side heart h n [] = tt
says_numbered side heart h n (Say a ∷ acts) = (refl, says_numbered side heart h (n + 1) acts)
says_numbered side heart h n (other ∷ acts) = says_numbered side heart h n acts

abbrev say_count : List Act → ℕ
say_count [] = 0
say_count (Say a ∷ acts) = 1 + say_count acts
say_count (Take ∷ acts) = say_count acts
say_count (Skip ∷ acts) = say_count acts
say_count (Resend from to ∷ acts) = say_count acts
say_count (HangUp ∷ acts) = say_count acts

one_more : (act : Act) (acts : List Act) → say_count (act ∷ acts)
    ≡ cond (session.is_say act) (1 + say_count acts) (say_count acts)
one_more (Say a) acts = refl
one_more Take acts = refl
one_more Skip acts = refl
one_more (Resend from to) acts = refl
one_more HangUp acts = refl

counted_says : (acts : List Act) → say_count acts ≡ says acts
counted_says acts = is_count_by say_count session.is_say refl one_more acts

said_length : (side : Side) (heart : ℕ) (h : Heard) (n : ℕ) (acts : List Act)
    → length (says_of side heart h n acts) ≡ say_count acts
said_length side heart h n [] = refl
said_length side heart h n (Say a ∷ acts) =
    let rest : length (says_of side heart h (n + 1) acts) ≡ say_count acts =
    said_length side heart h (n + 1) acts in omega (arith, rest)
said_length side heart h n (Take ∷ acts) = said_length side heart h n acts
said_length side heart h n (Skip ∷ acts) = said_length side heart h n acts
said_length side heart h n (Resend from to ∷ acts) = said_length side heart h n acts
said_length side heart h n (HangUp ∷ acts) = said_length side heart h n acts

says_length : (side : Side) (heart : ℕ) (h : Heard) (n : ℕ) (acts : List Act)
    → length (says_of side heart h n acts) ≡ says acts
says_length side heart h n acts = said_length side heart h n acts ∙ counted_says acts

says_own : (side : Side) (heart : ℕ) (h : Heard) (n : ℕ) (acts : List Act)
    → outs_to side (says_of side heart h n acts) ≡ says_of side heart h n acts
says_own Client heart h n [] = refl
says_own Venue heart h n [] = refl
says_own Client heart h n (Say a ∷ acts) =
    ap (λ (outs : List Out). out_of Client n false
    (said Client a heart n h.number h.msg_type h.echo) ∷ outs)
    (says_own Client heart h (n + 1) acts)
says_own Venue heart h n (Say a ∷ acts) =
    ap (λ (outs : List Out). out_of Venue n false
    (said Venue a heart n h.number h.msg_type h.echo) ∷ outs)
    (says_own Venue heart h (n + 1) acts)
says_own Client heart h n (other ∷ acts) = says_own Client heart h n acts
says_own Venue heart h n (other ∷ acts) = says_own Venue heart h n acts

says_none : (x side : Side) → is_side x side ≡ false → (heart : ℕ) (h : Heard) (n : ℕ)
    (acts : List Act) → outs_to x (says_of side heart h n acts) ≡ []
says_none x side far heart h n [] = refl
says_none x side far heart h n (Say a ∷ acts) =
    rw far (says_none x side far heart h (n + 1) acts)
says_none x side far heart h n (other ∷ acts) = says_none x side far heart h n acts

says_go_own : (side : Side) (heart : ℕ) (h : Heard) (acts : List Act) (before after : Next)
    → next_out side after ≡ next_out side before + says acts
    → Goes side before (says_of side heart h (next_out side before) acts) after
says_go_own side heart h acts before after next =
    let n : ℕ = next_out side before in
    let own : outs_to side (says_of side heart h n acts) ≡ says_of side heart h n acts =
    says_own side heart h n acts in
    record {
      numbered = subst (Numbered n) (sym own) (says_numbered side heart h n acts);
      next = omega (arith, next, says_length side heart h n acts, ap length own);
    }

says_go_far : (x side : Side) → is_side x side ≡ false → (heart : ℕ) (h : Heard) (n : ℕ)
    (acts : List Act) (before after : Next) → next_out x after ≡ next_out x before
    → Goes x before (says_of side heart h n acts) after
says_go_far x side far heart h n acts before after next =
    let none : outs_to x (says_of side heart h n acts) ≡ [] = says_none x side far heart h n acts in
    record {
      numbered = subst (Numbered (next_out x before)) (sym none) tt;
      next = omega (arith, next, ap length none);
    }

-- a step's messages lead to the numbers after it
pub says_go : (x side : Side) (heart : ℕ) (h : Heard) (acts : List Act) (s : Sessions)
    (next : Session)
    → next.numbers.next_out ≡ (session_of side s).numbers.next_out + says acts
    → Goes x (numbers_of s)
    (says_of side heart h (session_of side s).numbers.next_out acts)
    (numbers_of (with_session side next s))
says_go Client Client heart h acts s next counts =
    says_go_own Client heart h acts (numbers_of s) _ counts
says_go Venue Venue heart h acts s next counts =
    says_go_own Venue heart h acts (numbers_of s) _ counts
says_go Client Venue heart h acts s next counts =
    says_go_far Client Venue refl heart h _ acts (numbers_of s) _ refl
says_go Venue Client heart h acts s next counts =
    says_go_far Venue Client refl heart h _ acts (numbers_of s) _ refl

-- ---- a message of the application

-- what giving one out does
pub record IsGiven (s : Sessions) (words : Option Words) (g : Given) : Type 0 where
  pub goes : (x : Side) → Goes x (numbers_of s) g.outs (numbers_of g.sessions)
  pub stays : (x : Side) → next_in x (numbers_of g.sessions) ≡ next_in x (numbers_of s)
  pub sides : AreSides s → AreSides g.sessions
  pub gives : AreWords words g.outs

-- the session that has given out one more
abbrev raised : ℕ → Session → Session
raised now s =
    record s { numbers = record s.numbers { next_out = s.numbers.next_out + 1 }; said = now }

abbrev one_out : Sessions → Words → Out
one_out s words =
    out_of words.to (session_of words.to s).numbers.next_out words.resend words.said

abbrev one_given : ℕ → Sessions → Words → Given
one_given now s words = record {
  outs = one_out s words ∷ [];
  sessions = with_session words.to (raised now (session_of words.to s)) s;
}

one_goes : (to x : Side) (words : Said) (resend : Bool) (now : ℕ) (s : Sessions)
    → Goes x (numbers_of s) (out_of to (session_of to s).numbers.next_out resend words ∷ [])
    (numbers_of (with_session to (raised now (session_of to s)) s))
one_goes Client Client words resend now s =
    record { numbered = (refl, tt); next = omega arith }
one_goes Client Venue words resend now s = record { numbered = tt; next = omega arith }
one_goes Venue Client words resend now s = record { numbered = tt; next = omega arith }
one_goes Venue Venue words resend now s =
    record { numbered = (refl, tt); next = omega arith }

one_stays : (to x : Side) (now : ℕ) (s : Sessions)
    → next_in x (numbers_of (with_session to (raised now (session_of to s)) s))
    ≡ next_in x (numbers_of s)
one_stays Client Client now s = refl
one_stays Client Venue now s = refl
one_stays Venue Client now s = refl
one_stays Venue Venue now s = refl

-- a session of the same side takes a session's place
pub with_sides : (to : Side) (next : Session) (s : Sessions)
    → next.side ≡ (session_of to s).side → AreSides s → AreSides (with_session to next s)
with_sides Client next s side are = record { client = side ∙ are.client; venue = are.venue }
with_sides Venue next s side are = record { client = are.client; venue = side ∙ are.venue }

raised_side : (to : Side) (now : ℕ) (s : Sessions)
    → (raised now (session_of to s)).side ≡ (session_of to s).side
raised_side to now s = refl

-- what is answered is one value
abbrev or_given : {T E : Type 0} → T → Result T E → T
or_given other (Ok x) = x
or_given other (Err e) = other

abbrev IsOk : {T E : Type 0} → Result T E → T → Type 0
IsOk r y = r ≡ Ok y

pub same_ok : {T E : Type 0} (x y : T) → IsOk {T = T} {E = E} (Ok x) y → x ≡ y
same_ok x y is = ap (or_given x) is

pub given_as : (s : Sessions) (words : Option Words) (now : ℕ) (g : Given)
    → give now s words ≡ Ok g → IsGiven s words g
given_as s None now g is = subst (IsGiven s None) (same_ok _ g is) (record {
  goes = λ x. none_go x (numbers_of s);
  stays = λ x. refl;
  sides = λ are. are;
  gives = refl;
})
given_as s (Some words) now g is =
    by (session.is_spent (session_of words.to s).numbers.next_out 1) is
  where
    by : (b : Bool) → numbered s words (if b then Err session.spent else Ok (
      (session_of words.to s).numbers.next_out,
      raised now (session_of words.to s),
    )) ≡ Ok g → IsGiven s (Some words) g
    by true is = absurd (cc is)
    by false is = subst (IsGiven s (Some words)) (same_ok (one_given now s words) g is) (record {
      goes = λ x. one_goes words.to x words.said words.resend now s;
      stays = λ x. one_stays words.to x now s;
      sides = with_sides words.to (raised now (session_of words.to s)) s
          (raised_side words.to now s);
      gives = ((session_of words.to s).numbers.next_out, refl);
    })

-- ---- what is taken

with_stays : (x side : Side) (next : Session) (s : Sessions)
    → next.numbers.next_in ≡ (session_of side s).numbers.next_in
    → next_in x (numbers_of (with_session side next s)) ≡ next_in x (numbers_of s)
with_stays Client Client next s same = same
with_stays Client Venue next s same = refl
with_stays Venue Client next s same = refl
with_stays Venue Venue next s same = same

abbrev StaysFar : Side → Side → Next → Next → Type 0
StaysFar x side before after = elim (is_side x side) [
  | true ↦ Unit {0}
  | false ↦ next_in x after ≡ next_in x before
]

far_stays : (x side : Side) (next : Session) (s : Sessions) (after : Next)
    → next_in x after ≡ next_in x (numbers_of (with_session side next s))
    → StaysFar x side (numbers_of s) after
far_stays Client Client next s after same = tt
far_stays Client Venue next s after same = same
far_stays Venue Client next s after same = same
far_stays Venue Venue next s after same = tt

-- the number that is expected from a side stays, unless its message was taken
abbrev pub StaysBy : Side → Next → Option Took → Next → Type 0
StaysBy x before took after = elim took [
  | None ↦ next_in x after ≡ next_in x before
  | Some took ↦ elim (is_side x took.side) [
    | true ↦ Unit {0}
    | false ↦ next_in x after ≡ next_in x before
  ]
]

took_stays : (x side : Side) (body : List ℕ) (b : Bool) (number : Option ℕ) (next : Session)
    (s : Sessions) (after : Next)
    → (b ≡ false → next.numbers.next_in ≡ (session_of side s).numbers.next_in)
    → (number ≡ None → b ≡ false)
    → next_in x after ≡ next_in x (numbers_of (with_session side next s))
    → StaysBy x (numbers_of s) (took_if b side body number) after
took_stays x side body true (Some n) next s after stays none same =
    far_stays x side next s after same
took_stays x side body true None next s after stays none same = absurd (cc (none refl))
took_stays x side body false (Some n) next s after stays none same =
    same ∙ with_stays x side next s (stays refl)
took_stays x side body false None next s after stays none same =
    same ∙ with_stays x side next s (stays refl)

-- what is taken has a number
pub is_numbered : (w : What) (number : Option ℕ) (before : ℕ) (t : Step)
    → TakesExpected w number before t → number ≡ None → takes t.acts ≡ false
is_numbered w None before t expected is = expected
is_numbered w (Some n) before t expected is = absurd (cc is)

pub event_stays : (names : Names) (window : ℕ) (x : Side) (s : Sessions) (event : Event) (now : ℕ)
    (t : Step) (after : Next)
    → IsStep (session_of (side_of event) s) (input_of names window event now) t
    → next_in x after ≡ next_in x (numbers_of (with_session (side_of event) t.next s))
    → StaysBy x (numbers_of s) (took_of event (input_of names window event now) t.acts) after
event_stays names window x s (Frame side body) now t after is same =
    let head : Head = head_in names window side body now in
    took_stays x side body (takes t.acts) head.number t.next s after is.stays
    (is_numbered head.what head.number (session_of side s).numbers.next_in t is.expected) same
event_stays names window x s (Opened side) now t after is same =
    same ∙ with_stays x side t.next s (is.stays is.expected)
event_stays names window x s (Closed side) now t after is same =
    same ∙ with_stays x side t.next s (is.stays is.expected)
event_stays names window x s (Tick side) now t after is same =
    same ∙ with_stays x side t.next s (is.stays is.expected)
event_stays names window x s (End side) now t after is same =
    same ∙ with_stays x side t.next s (is.stays is.expected)
