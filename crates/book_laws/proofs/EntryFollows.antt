-- What a side learns of an entry's outs is what the other side said in it.
use Rattle.std.proofs.Common.{◌≡◌, ◌≤◌, ℕ, Bool, true, false, List, [], ◌∷◌, ◌++◌, Some, None}
use Rattle.std.proofs.Common.{Ok, Err, refl, sym, ap, ◌∙◌, subst, IfSome, length}
use Rattle.std.specs.Prelude.{Option, Result, ◌&&◌, ◌||◌, not, nat_lt, fold, cond, if◌then◌else◌}
use Rattle.std.specs.List.{list_any}
use Rattle.std.proofs.lemmas.List.Sums.{fold-append}
use Rattle.field_groups.specs.Field.{Field, AreFields, body_of}
use Rattle.message_tables.specs.Tables.{◌>>=◌}
use Rattle.order_meaning.specs.declared.Side.{Side}
use Rattle.order_meaning.specs.declared.Side.TheVariants.{Client, Venue}
use Rattle.order_meaning.specs.declared.names.Names.{Names}
use Rattle.session_core.specs.declared.said.Said.{Said}
use Rattle.session_core.specs.declared.session.Session.{Session}
use Rattle.session_core.specs.declared.session.Spent.{Spent}
use Rattle.session_core.specs.declared.session.Step.{Step}
use Rattle.session_core.specs.Table as session
use Rattle.pair_entries.specs.declared.TheConstants.{MAX_NUMBER}
use Rattle.pair_entries.specs.declared.entry.Took.{Took}
use Rattle.pair_entries.specs.declared.entry.Out.{Out}
use Rattle.pair_entries.specs.declared.entry.Entry.{Entry}
use Rattle.pair_entries.specs.Payload.{IsEntry, IsTook}
use Rattle.kept_entries.specs.Numbers.{is_side}
use Rattle.event_decisions.specs.Body.{fields_of}
use Rattle.event_decisions.specs.Event.{Event, side_of}
use Rattle.event_decisions.specs.Decide.{Words, Sessions, Given, Decision, session_of}
use Rattle.event_decisions.specs.Decide.{heard_in, input_of, stepped, says_of, out_of, took_of}
use Rattle.event_decisions.specs.Decide.{asks, asked_if, asked_by, numbered, give, concluded}
use Rattle.event_decisions.specs.Decide.{decide_by, with_session, is_active, IsDecided}
use Rattle.event_decisions.specs.Laws.{AreWords, asked_about}
use Rattle.message_answers.specs.Answer.{Answers, other}
use Rattle.message_answers.specs.Message.{is_refusal_type}
use Rattle.message_answers.specs.Laws.{AnswersAreGivenOut, AreNumbered, IsGivenOut, IsNumbered}
use Rattle.message_answers.specs.Laws.{is_in_header}
use Rattle.life_laws.specs.Receiver.{behind_header, message_of_out}
use Rattle.book_laws.specs.Heard.{heard_body, heard_out, said_out, is_among, report_types}
use Rattle.book_laws.specs.Heard.{request_types, refusal_sort, sort_of, Report, Request, Plain}
use Rattle.book_laws.specs.Learned.{Learned, types_to, with_taken, read_in, is_for, with_said}
use Rattle.book_laws.specs.Learned.{goes_below, said_by}
use Rattle.book_laws.specs.HeardLaws.{AnswersAreHeard, IsHeard, Off, Returned, On, IsHeardOn}
use Rattle.book_laws.specs.HeardLaws.{sort_from}
use Rattle.life_laws.proofs.Received.{content_read}
use Rattle.book_laws.proofs.Quiet.{IsQuiet, AreQuiet, says_quiet, reject_quiet}
use Rattle.book_laws.proofs.Quiet.{after_out, quiet_one, quiet_outs, quiet_goes, quiet_none}

-- ---- the content of what is given out says nothing that its header says

header_none : (fields : List Field) → list_any is_in_header fields ≡ false
    → behind_header fields ≡ fields
header_none [] none = refl
header_none (f ∷ fields) none = by (is_in_header f) none (λ e. header_none fields e)
  where
    by : (b : Bool) → (b || list_any is_in_header fields) ≡ false
        → (list_any is_in_header fields ≡ false → behind_header fields ≡ fields)
        → cond (not b) (f ∷ behind_header fields) (behind_header fields) ≡ f ∷ fields
    by true e rest = absurd (cc e)
    by false e rest = ap (λ (fs : List Field). f ∷ fs) (rest e)

pub content_kept : (content : List ℕ) (fields : List Field) → content ≡ body_of fields
    → AreFields None fields → length fields ≤ 248 → list_any is_in_header fields ≡ false
    → behind_header (fields_of content) ≡ fields_of content
content_kept content fields is good few none =
    let read : fields_of content ≡ fields = ap fields_of is ∙ content_read fields good few in
    ap behind_header read ∙ header_none fields none ∙ sym read

-- ---- a message that is given out for one that was taken

pub type_to : (side : Side) (msg_type : List ℕ) (is_read : Bool)
    → sort_of msg_type is_read ≡ sort_from side → is_among (types_to (other side)) msg_type ≡ true
type_to side msg_type is_read is = same side ∙ by side (is_refusal_type msg_type)
    (is_among request_types msg_type) (is_among report_types msg_type) is
  where
    never : (side : Side) (b : Bool) → refusal_sort b ≡ sort_from side → ⊥
    never Client true e = absurd (cc e)
    never Venue true e = absurd (cc e)
    never side b e = absurd (cc e)

    of : Side → (request report : Bool) → Bool
    of Client request report = request
    of Venue request report = report

    same : (side : Side) → is_among (types_to (other side)) msg_type
        ≡ of side (is_among request_types msg_type) (is_among report_types msg_type)
    same Client = refl
    same Venue = refl

    by : (side : Side) (a q r : Bool) → (if a then refusal_sort is_read else
        (if q then Request else (if r then Report else Plain))) ≡ sort_from side
        → of side q r ≡ true
    by side true q r e = absurd (never side is_read e)
    by Client false true r e = refl
    by Client false false true e = absurd (cc e)
    by Venue false false true e = refl
    by side false q r e = absurd (cc e)

-- what a side has learned after what the other side said, where it went on
abbrev pub after_said : (side : Side) → Learned side → (goes : Bool) → Option Took → Learned side
after_said side learned goes took =
    if goes then with_said side learned (took >>= said_by (other side)) else learned

module _ (side : Side) (n : ℕ) (learned : Learned side) where
  -- a side learns of an out what the other side said in a message
  abbrev pub Follows : Out → Option Took → Type 0
  Follows out took =
      after_out side n learned out ≡ after_said side learned (goes_below side n out || false) took

  quiet_follows : (out : Out) (took : Option Took) → IsQuiet out.msg_type → Follows out took
  quiet_follows out took quiet = quiet_one side n learned out quiet
      ∙ sym (ap (λ b. after_said side learned (b || false) took) (quiet_goes side n out quiet))

  goes_follows : (out : Out) (took : Took) → is_side side out.side ≡ true → out.admin ≡ false
      → is_for side (message_of_out out) ≡ true
      → with_taken side learned (read_in side (message_of_out out))
      ≡ with_said side learned (said_by (other side) took) → Follows out (Some took)
  goes_follows out took to plain is same = by (is_side side out.side) (nat_lt out.number n)
      out.admin (is_for side (message_of_out out)) to plain is
    where
      by : (s b a t : Bool) → s ≡ true → a ≡ false → t ≡ true
          → (if s then (if b then (if not a then (if t
          then with_taken side learned (read_in side (message_of_out out)) else learned)
          else learned) else learned) else learned)
          ≡ after_said side learned (s && (t && b) || false) (Some took)
      by false b a t to plain is = absurd (cc to)
      by true b true t to plain is = absurd (cc plain)
      by true b false false to plain is = absurd (cc is)
      by true true false true to plain is = same
      by true false false true to plain is = refl

-- what a side reads in an out that is given it is what is heard in it
read_is : (side : Side) (number : ℕ) (resend : Bool) (said : Said) → IsGivenOut said
    → read_in side (message_of_out (out_of side number resend said))
    ≡ said_out (out_of side number resend said)
read_is side number resend said given = ap (λ (fields : List Field). read_in side (record {
  number = number;
  msg_type = said.msg_type;
  resend = resend;
  fields = fields;
})) (content_kept said.content given.fields given.content given.good given.few given.no_header)

module _ (n : ℕ) (own : ℕ) (raw : List ℕ) (said : Said) (resend : Bool) (number : ℕ)
    (given : IsGivenOut said) where
  on_follows : (side from to : Side) (learned : Learned side) → to ≡ other from
      → IsHeardOn from (heard_body from own raw) (heard_out (out_of to number resend said))
      → Follows side n learned (out_of to number resend said)
      (Some (record { side = from; number = own; raw = raw }))
  on_follows Client from Venue learned is on = refl
  on_follows Venue from Client learned is on = refl
  on_follows Client Client Client book is on = absurd (cc is)
  on_follows Venue Venue Venue meanings is on = absurd (cc is)
  on_follows Client Venue Client book is on = goes_follows Client n book
      (out_of Client number resend said) (record { side = Venue; number = own; raw = raw }) refl
      given.plain (type_to Venue said.msg_type _ on.out_sort)
      (ap (with_taken Client book) (read_is Client number resend said given)
      ∙ sym (on.carries book))
  on_follows Venue Client Venue meanings is on = goes_follows Venue n meanings
      (out_of Venue number resend said) (record { side = Client; number = own; raw = raw }) refl
      given.plain (type_to Client said.msg_type _ on.out_sort)
      (ap (with_taken Venue meanings) (read_is Venue number resend said given)
      ∙ sym (ap (λ m. meanings ++ m ∷ []) on.carries))

module _ (side : Side) (n : ℕ) (learned : Learned side) where
  heard_follows : (before : List Entry) (took : Took) (words : Words) (number : ℕ)
      → IsGivenOut words.said → IsHeard before (asked_about took) words number
      → Follows side n learned (out_of words.to number words.resend words.said) (Some took)
  heard_follows before took words number given (Off to refuses) =
      quiet_follows side n learned (out_of words.to number words.resend words.said) (Some took)
      (reject_quiet words.said.msg_type _ refuses.reject)
  heard_follows before took words number given (Returned to told) =
      quiet_follows side n learned (out_of words.to number words.resend words.said) (Some took)
      (reject_quiet words.said.msg_type _ told.refuses.reject)
  heard_follows before took words number given (On to on) =
      on_follows n took.number took.raw words.said words.resend number given side took.side words.to
      learned to on

-- ---- an entry that is decided

outs_in : Result Given Side → List Out
outs_in (Ok given) = given.outs
outs_in (Err side) = []

entry_in : Result Decision Side → Option Entry
entry_in (Ok decision) = decision.entry
entry_in (Err side) = None

numbered_are : (s : Sessions) (words : Words) (r : Result (ℕ × Session) Spent) (g : Given)
    → numbered s words r ≡ Ok g → AreWords (Some words) g.outs
unfolding outs_in
numbered_are s words (Err spent) g made = absurd (cc made)
numbered_are s words (Ok next) g made = (next.0, sym (ap outs_in made))

give_are : (now : ℕ) (s : Sessions) (words : Option Words) (g : Given)
    → give now s words ≡ Ok g → AreWords words g.outs
unfolding outs_in
give_are now s None g made = sym (ap outs_in made)
give_are now s (Some words) g made =
    numbered_are s words (session.given (session_of words.to s) now) g made

from_if : (b : Bool) (x e : Entry) → (if b then None else Some x) ≡ Some e → x ≡ e
from_if true x e is = absurd (cc is)
from_if false x e is = cc is

-- quiet messages of its session, and then these words
pub record IsMadeOf (took : Option Took) (e : Entry) (words : Option Words) : Type 0 where
  pub took_is : e.took ≡ took
  pub own : List Out
  pub quiet : AreQuiet own
  pub given : List Out
  pub are : AreWords words given
  pub outs : e.outs ≡ own ++ given

concluded_is : (names : Names) (window : ℕ) (s t : Sessions) (event : Event) (now : ℕ)
    (words : Option Words) (step : Step) (r : Result Given Side) (d : Decision) (e : Entry)
    → give now t words ≡ r → concluded names window s event now step r ≡ Ok d → d.entry ≡ Some e
    → IsMadeOf (took_of event (input_of names window event now) step.acts) e words
unfolding entry_in
concluded_is names window s t event now words step (Err side) d e gives made is = absurd (cc made)
concluded_is names window s t event now words step (Ok g) d e gives made is =
    let side = side_of event in
    let h = heard_in event (input_of names window event now) in
    let n = (session_of side s).numbers.next_out in
    let same = from_if _ _ e (ap entry_in made ∙ is) in
    record {
      took_is = ap (λ (x : Entry). x.took) (sym same);
      own = says_of side step.next.heart h n step.acts;
      quiet = says_quiet side step.next.heart h n step.acts;
      given = g.outs;
      are = give_are now t words g gives;
      outs = ap (λ (x : Entry). x.outs) (sym same);
    }

-- where these words answer what the entry took
pub record IsAnswered (before : List Entry) (e : Entry) : Type 0 where
  pub took : Option Took
  pub asked : Bool
  pub active : Bool
  pub words : Option Words
  pub of : IsMadeOf took e words
  pub answer : Answers before active (asked_if asked took) words

pub decided_is : (names : Names) (before : List Entry) (e : Entry)
    → IsDecided Answers names before e → IsAnswered before e
decided_is names before e d =
    by (stepped names d.window d.sessions d.event e.at) d.decides.answer d.decides.decided
  where
    by : (r : Result Step Spent) → Answers before (is_active d.sessions.venue.link)
        (asked_by d.event (input_of names d.window d.event e.at) r) d.decides.words
        → decide_by names d.window d.sessions d.event e.at d.decides.words r ≡ Ok d.decision
        → IsAnswered before e
    by (Err spent) answer made = absurd (cc made)
    by (Ok step) answer made =
        let input = input_of names d.window d.event e.at in
        let t = with_session (side_of d.event) step.next d.sessions in
        record {
          took = took_of d.event input step.acts;
          asked = asks input step.acts;
          active = is_active d.sessions.venue.link;
          words = d.decides.words;
          of = concluded_is names d.window d.sessions t d.event e.at d.decides.words step
              (give e.at t d.decides.words) d.decision e refl made d.is;
          answer = answer;
        }

module _ (heard : AnswersAreHeard) (given_out : AnswersAreGivenOut) (names : Names)
    (side : Side) (n : ℕ) (before : List Entry) (numbered_before : AreNumbered before)
    (learned : Learned side) where
  -- a side learns of these outs what the other side said in this message
  abbrev pub FollowAll : List Out → Option Took → Type 0
  FollowAll outs took = fold (after_out side n) learned outs
      ≡ after_said side learned (list_any (goes_below side n) outs) took

  abbrev pub FollowsEntry : Entry → Type 0
  FollowsEntry e = FollowAll e.outs e.took

  outs_follow : (own given : List Out) (took : Option Took) → AreQuiet own
      → FollowAll given took → FollowAll (own ++ given) took
  outs_follow own given took quiet same = fold-append (after_out side n) learned own given
      ∙ ap (λ l. fold (after_out side n) l given) (quiet_outs side n learned own quiet) ∙ same
      ∙ sym (ap (λ b. after_said side learned b took) (quiet_none side n own given quiet))

  words_follow : (took : Option Took) (b : Bool) (active : Bool) (words : Option Words)
      (given : List Out) → IfSome took IsTook
      → Answers before active (asked_if b took) words → AreWords words given → FollowAll given took
  words_follow took b active None given bounds answer are =
      subst (λ (outs : List Out). FollowAll outs took) (sym are) refl
  words_follow None true active (Some words) given bounds answer are = absurd (cc answer)
  words_follow took false active (Some words) given bounds answer are = absurd (cc answer)
  words_follow (Some took) true active (Some words) given bounds answer are =
      let said = given_out before active (Some (asked_about took)) words numbered_before
      bounds.below answer in
      let is = heard before active (asked_about took) words are.0 numbered_before bounds.below
      answer in
      subst (λ (outs : List Out). FollowAll outs (Some took)) (sym are.1)
      (heard_follows side n learned before took words are.0 said is)

  made_follows : (took : Option Took) (b active : Bool) (words : Option Words) (e : Entry)
      → IfSome e.took IsTook → IsMadeOf took e words → Answers before active (asked_if b took) words
      → FollowsEntry e
  made_follows took b active words e bounds of answer =
      subst (λ (outs : List Out). FollowAll outs e.took) (sym of.outs)
      (outs_follow of.own of.given e.took of.quiet
      (words_follow e.took b active words of.given bounds
      (subst (λ (t : Option Took). Answers before active (asked_if b t) words) (sym of.took_is)
      answer) of.are))

  pub entry_follows : (e : Entry) → IsEntry e → IsDecided Answers names before e → FollowsEntry e
  entry_follows e is decided =
      let f = decided_is names before e decided in
      made_follows f.took f.asked f.active f.words e is.took f.of f.answer

-- ---- numbers that a message may have

pub numbered_more : (before : List Entry) (e : Entry) → AreNumbered before → IsNumbered e
    → AreNumbered (before ++ e ∷ [])
numbered_more [] e are is = (is, tt)
numbered_more (x ∷ before) e are is = (are.0, numbered_more before e are.1 is)

pub number_of : (took : Option Took) → IfSome took IsTook → IfSome took (λ t. t.number ≤ MAX_NUMBER)
number_of None is = tt
number_of (Some took) is = is.below
