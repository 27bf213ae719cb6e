-- What an entry of a lawful journal is: a message goes on, or is answered off; a refusal is told to
-- the other side; nothing is answered; or messages of the sessions alone.
use Rattle.std.proofs.Common.{◌≡◌, ◌≤◌, ◌⊎◌, ◌==◌, ◌||◌, ℕ, Bool, true, false, List, [], ◌∷◌, ◌++◌}
use Rattle.std.proofs.Common.{codes, Option, Some, None, Result, Ok, Err, IfSome, refl, sym, ap}
use Rattle.std.proofs.Common.{subst, ◌∙◌, arith, inl, inr, length}
use Rattle.std.specs.Prelude.{cond}
use Rattle.std.specs.Str.{bytes_eq}
use Rattle.field_groups.specs.Field.{body_of}
use Rattle.message_tables.specs.Tables.{Message}
use Rattle.order_meaning.specs.declared.Side.{Side}
use Rattle.order_meaning.specs.declared.Side.TheVariants.{Client, Venue}
use Rattle.order_meaning.specs.declared.names.Names.{Names}
use Rattle.session_core.specs.declared.act.Act.{Act}
use Rattle.session_core.specs.declared.act.Act.TheVariants.{Take}
use Rattle.session_core.specs.declared.act.Admin.TheVariants as admin
use Rattle.session_core.specs.declared.reason.TheConstants.{COMP_ID_PROBLEM}
use Rattle.session_core.specs.declared.head.What.TheVariants as what
use Rattle.session_core.specs.declared.said.Said.{Said}
use Rattle.session_core.specs.declared.session.Spent.{Spent}
use Rattle.session_core.specs.declared.session.Step.{Step}
use Rattle.session_core.specs.declared.tag.TheConstants.{NEW_SEQ_NO, SENDING_TIME, REF_TAG_ID}
use Rattle.session_core.specs.declared.tag.TheConstants.{REF_MSG_TYPE}
use Rattle.session_core.specs.Said.{ref_msg_type}
use Rattle.std.specs.Fmt.{decimal}
use Rattle.session_core.specs.Table as session
use Rattle.session_logon.specs.Content as content
use Rattle.session_logon.specs.Head.{number_in}
use Rattle.pair_entries.specs.declared.TheConstants.{MAX_CONTENT, MAX_NUMBER}
use Rattle.pair_entries.specs.declared.entry.Took.{Took}
use Rattle.pair_entries.specs.declared.entry.Out.{Out}
use Rattle.pair_entries.specs.declared.entry.Entry.{Entry}
use Rattle.pair_entries.specs.Payload.{IsEntry, IsTook}
use Rattle.kept_entries.specs.Numbers.{is_side, outs_to}
use Rattle.event_decisions.specs.Body.{fields_of, type_of}
use Rattle.event_decisions.specs.Event.{Event, Opened, Frame, Closed, Tick, End}
use Rattle.event_decisions.specs.Decide.{Asked, Words, Sessions, asked_by, asked_if, asked_of, asks}
use Rattle.event_decisions.specs.Decide.{head_in, input_of, is_active, is_for_application, out_of}
use Rattle.event_decisions.specs.Decide.{stepped, took_if, took_of, IsDecided}
use Rattle.event_decisions.specs.Laws.{AreAdmin, AreWords, Breaks, DecisionsMake, IsBreaking}
use Rattle.event_decisions.specs.Laws.{IsMade, Answers as Answering, Rejects, Breaking, Rests}
use Rattle.event_decisions.specs.Laws.{IsNumbered, IsOfSession, IsSilent, asked_about, is_breaking}
use Rattle.event_decisions.specs.Laws.{reject_out, what_of}
use Rattle.message_answers.specs.Answer.{Answers, is_used, other}
use Rattle.message_answers.specs.Known.{known_of, named}
use Rattle.message_answers.specs.Laws.{AreNumbered, IsGivenOut, IsGivenType}
use Rattle.message_answers.specs.Message.{is_refusal, message_of, refusal_in}
use Rattle.life_laws.specs.Receiver.{IsSent}
use Rattle.book_laws.specs.Heard.{Refusal, heard_body, heard_out}
use Rattle.book_laws.specs.HeardLaws.{AnswersAreHeard, IsHeard, IsHeardOn, IsRefusalOf, IsReturned}
use Rattle.book_laws.specs.HeardLaws.{Off, On, Returned, RefusalsAreHeard, sort_from}
use Rattle.book_laws.proofs.Answered.{IsAnswer, Nears, Tells, Goes, NamesFirst, answer_is}
use Rattle.book_laws.proofs.Texts.{refuses}
use Rattle.book_laws.specs.Keeps.{In}
use Rattle.book_laws.proofs.Sides.{own_side}
use Rattle.book_laws.proofs.Silence.{IsSilence, Repeats, NamesNone, silent}
use Rattle.book_laws.proofs.Tooks.{faulty_tag, no_reset}

-- ---- what an entry is

-- the message that an entry took is no SequenceReset
pub record IsTaken (e : Entry) (took : Took) : Type 0 where
  pub is : e.took ≡ Some took
  pub numbered : number_in (fields_of took.raw) ≡ Some took.number
  pub no_reset : bytes_eq (type_of took.raw) (codes "4") ≡ false

-- one message is given out to a side
pub record GivesOne (e : Entry) (side : Side) (out : Out) : Type 0 where
  pub outs : e.outs ≡ out ∷ []
  pub to : out.side ≡ side

pub record IsRead (took : Took) (refuses : Bool) (m : Message) : Type 0 where
  pub reads : message_of took.side took.raw ≡ Ok m
  pub is : is_refusal m ≡ refuses

-- a message goes on
pub record Going (before : List Entry) (e : Entry) (took : Took) (out : Out) (m : Message) : Type 0
  where
    pub taken : IsTaken e took
    pub gives : GivesOne e (other took.side) out
    pub read : IsRead took false m
    pub typed : out.msg_type ≡ m.letter ∷ []
    pub unused : took.side ≡ Client → is_used (known_of before) m ≡ false
    pub on : IsHeardOn took.side (heard_body took.side took.number took.raw) (heard_out out)

pub data Made (before : List Entry) (e : Entry) : Type 0 where
  MadeOn : (took : Took) (out : Out) (m : Message) → Going before e took out m → Made before e
  MadeOff : (took : Took) (out : Out) → IsTaken e took → GivesOne e took.side out
      → IsRefusalOf took.number (heard_out out) → Made before e
  MadeTold : (took : Took) (out : Out) → IsTaken e took → GivesOne e (other took.side) out
      → IsReturned before (asked_about took) (heard_out out) → Made before e
  MadeRepeat : (took : Took) (m : Message) → IsTaken e took → e.outs ≡ [] → IsRead took false m
      → took.side ≡ Client → m.resend ≡ true → Made before e
  MadeNone : (took : Took) (m : Message) → IsTaken e took → e.outs ≡ [] → IsRead took true m
      → named (known_of before) took.side (refusal_in m) ≡ None → Made before e
  MadeRest : IsOfSession e.took → AreAdmin e.outs → Made before e

-- ---- a Reject that breaks goes to one of the sides

module _ (out : Out) (outs : List Out) where
  own_break : (s : Side) → is_side s out.side ≡ true → IsBreaking out
      → Breaks (outs_to s (out ∷ outs))
  own_break s same is =
      subst (λ (b : Bool). Breaks (cond b (out ∷ outs_to s outs) (outs_to s outs))) (sym same)
      (inl is)

  more_break : (s : Side) → Breaks (outs_to s outs) → Breaks (outs_to s (out ∷ outs))
  more_break s is = by (is_side s out.side)
    where
      by : (b : Bool) → Breaks (cond b (out ∷ outs_to s outs) (outs_to s outs))
      by true = inr is
      by false = is

  one_break : (s : Side) → out.side ≡ s → IsBreaking out
      → Breaks (outs_to Client (out ∷ outs)) ⊎ Breaks (outs_to Venue (out ∷ outs))
  one_break Client same is = inl (own_break Client (ap (is_side Client) same) is)
  one_break Venue same is = inr (own_break Venue (ap (is_side Venue) same) is)

side_breaks : (outs : List Out) → Breaks outs
    → Breaks (outs_to Client outs) ⊎ Breaks (outs_to Venue outs)
side_breaks [] is = absurd is
side_breaks (out ∷ outs) (inl is) = one_break out outs out.side refl is
side_breaks (out ∷ outs) (inr is) = elim (side_breaks outs is) [
  | inl client ↦ inl (more_break out outs Client client)
  | inr venue ↦ inr (more_break out outs Venue venue)
]

pub none_breaks : (outs : List Out) → (Breaks (outs_to Client outs) → ⊥)
    → (Breaks (outs_to Venue outs) → ⊥) → Breaks outs → ⊥
none_breaks outs client venue is =
    elim (side_breaks outs is) [ inl one ↦ client one | inr one ↦ venue one ]

-- ---- what was asked is the application's

pub silent_by : (before : List Entry) (active : Bool) (asked : Option Asked) (words : Option Words)
    → Answers before active asked words → IsSilent asked words
silent_by before active None words is = is
silent_by before active (Some asked) words is = tt

abbrev IsApplication : Asked → Type 0
IsApplication asked = is_for_application (what_of asked.side asked.body) ≡ true

asked_in : (b : Bool) (side : Side) (body : List ℕ) (taken : Bool) (number : Option ℕ) (a : Asked)
    → is_for_application (what_of side body) ≡ b
    → asked_if b (took_if taken side body number) ≡ Some a → IsApplication a
asked_in true side body true (Some n) a app is =
    let same : record { side = side; number = n; body = body } ≡ a = cc is in
    subst IsApplication same app
asked_in b side body taken number a app is = absurd (cc is)

none_asked : (b : Bool) (a : Asked) → asked_if b None ≡ Some a → IsApplication a
none_asked true a is = absurd (cc is)
none_asked false a is = absurd (cc is)

module _ (names : Names) (window : ℕ) (now : ℕ) where
  asked_step : (event : Event) (step : Step) (a : Asked)
      → asked_by event (input_of names window event now) (Ok step) ≡ Some a → IsApplication a
  asked_step (Opened side) step a is = none_asked (asks session.Opened step.acts) a is
  asked_step (Closed side) step a is = none_asked (asks session.Closed step.acts) a is
  asked_step (Tick side) step a is = none_asked (asks session.Tick step.acts) a is
  asked_step (End side) step a is = none_asked (asks session.End step.acts) a is
  asked_step (Frame side body) step a is = by step.acts is
    where
      by : (acts : List Act)
          → asked_if (asks (session.Message (head_in names window side body now)) acts)
          (took_of (Frame side body) (session.Message (head_in names window side body now)) acts)
          ≡ Some a → IsApplication a
      by (Take ∷ []) is = asked_in (is_for_application (what_of side body)) side body true
          (number_in (fields_of body)) a refl is
      by acts is = absurd (cc is)

  asked_result : (event : Event) (r : Result Step Spent) (a : Asked)
      → asked_by event (input_of names window event now) r ≡ Some a → IsApplication a
  asked_result event (Err spent) a is = absurd (cc is)
  asked_result event (Ok step) a is = asked_step event step a is

  asked_app : (s : Sessions) (event : Event) (a : Asked)
      → asked_of names window s event now ≡ Some a → IsApplication a
  asked_app s event a is = asked_result event (stepped names window s event now) a is

-- ---- a session's Reject

reject_names : (side : Side) (n tag reason number : ℕ) (msg_type : List ℕ)
    → NamesFirst number (content.said side (admin.Reject tag reason) 0 n number msg_type [])
reject_names side n tag reason number msg_type = record {
  letter = 51;
  typed = refl;
  listed = refl;
  more = ((REF_TAG_ID, decimal tag) ∷ (REF_MSG_TYPE, ref_msg_type msg_type) ∷ [])
      ++ content.reason_fields side reason;
  content = refl;
}

reject_given : (names : Names) (to : Side) (out : Out) (said : Said) → IsSent names to out
    → said.msg_type ≡ codes "3" → said.admin ≡ false → out.content ≡ said.content → IsGivenOut said
reject_given names to out said sent typed plain same =
    let content : said.content ≡ body_of sent.fields = sym same ∙ sent.content in
    record {
      fields = sent.fields;
      content = content;
      good = sent.sendable.good;
      few = sent.sendable.few;
      bounded = subst (λ (c : List ℕ). length c ≤ MAX_CONTENT) (sym content) sent.sendable.bounded;
      msg_type = subst IsGivenType (sym typed) (record {
        typed = omega arith;
        short = omega arith;
        plain = refl;
        no_reset = refl;
        no_session = refl;
      });
      no_header = sent.no_header;
      plain = plain;
    }

-- ---- an entry

not_other : (side : Side) → side ≡ other side → ⊥
not_other Client is = absurd (cc is)
not_other Venue is = absurd (cc is)

not_refusal : (side : Side) → Refusal ≡ sort_from side → ⊥
not_refusal Client is = absurd (cc is)
not_refusal Venue is = absurd (cc is)

abbrev to_of : Side → Option Words → Side
to_of side None = side
to_of side (Some words) = words.to

abbrev type_in : Option Words → List ℕ
type_in None = []
type_in (Some words) = words.said.msg_type

module _ (makes : DecisionsMake) (hears : AnswersAreHeard) (refusals : RefusalsAreHeard)
    (names : Names) (before : List Entry) (numbered : AreNumbered before) (e : Entry)
    (bounds : IsEntry e) (unbroken : Breaks e.outs → ⊥)
    (sent : (side : Side) (out : Out) → In out (outs_to side e.outs) → IsSent names side out) where
  -- ---- an answer

  module _ (active : Bool) (took : Took) (taken : IsTaken e took) (few : took.number ≤ MAX_NUMBER)
      (words : Words) (answer : Answers before active (Some (asked_about took)) (Some words))
      (number : ℕ) where
    abbrev out : Out
    out = out_of words.to number words.resend words.said

    on_made : words.to ≡ other took.side
        → IsHeardOn took.side (heard_body took.side took.number took.raw)
        (heard_out out) → e.outs ≡ out ∷ []
        → IsAnswer before (asked_about took) (Some words) → Made before e
    on_made to on outs (Nears said first is) =
        absurd (not_other took.side (sym (ap (to_of took.side) is) ∙ to))
    on_made to on outs (Tells m reads is_one own letter source is) =
        absurd (not_refusal took.side
        (sym (refusals took.side took.number took.raw m reads is_one).sort ∙ on.sort))
    on_made to on outs (Goes m reads none unused original known written goes is) =
        MadeOn took out m (record {
          taken = taken;
          gives = record { outs = outs; to = to };
          read = record { reads = reads; is = none };
          typed = ap type_in is;
          unused = unused;
          on = on;
        })

    words_made : e.outs ≡ out ∷ [] → IsHeard before (asked_about took) words number → Made before e
    words_made outs (Off to refuse) =
        MadeOff took out taken
        (record { outs = outs; to = to }) refuse
    words_made outs (Returned to told) =
        MadeTold took out taken
        (record { outs = outs; to = to }) told
    words_made outs (On to on) = on_made to on outs
        (answer_is before numbered active (asked_about took) words answer)

  answered : (active : Bool) (took : Took) → IsTaken e took → took.number ≤ MAX_NUMBER
      → (words : Option Words) → Answers before active (Some (asked_about took)) words
      → AreWords words e.outs → Made before e
  answered active took taken few None answer none =
      by (silent before active (asked_about took) answer)
    where
      by : IsSilence before (asked_about took) → Made before e
      by (Repeats m reads is side resend) =
          MadeRepeat took m taken none (record { reads = reads; is = is }) side resend
      by (NamesNone m reads is none_named) =
          MadeNone took m taken none (record { reads = reads; is = is }) none_named
  answered active took taken few (Some words) answer are =
      words_made active took taken few words answer are.0 are.1
      (hears before active (asked_about took) words are.0 numbered few answer)

  -- ---- a Reject of the session

  breaks_by : (tag reason : ℕ) → tag ≡ NEW_SEQ_NO → is_breaking tag reason ≡ true
  breaks_by tag reason is = ap (λ (t : ℕ). is_breaking t reason) is ∙ by (is_comp reason)
    where
      is_comp : ℕ → Bool
      is_comp r = r == COMP_ID_PROBLEM

      by : (b : Bool) → (b || (NEW_SEQ_NO == SENDING_TIME || true)) ≡ true
      by true = refl
      by false = refl

  rejected : (took : Took) (n tag reason : ℕ) → e.took ≡ Some took
      → number_in (fields_of took.raw) ≡ Some took.number → took.number ≤ MAX_NUMBER
      → what_of took.side took.raw ≡ what.Faulty tag reason
      → e.outs ≡ reject_out took.side n tag reason took.number (type_of took.raw) ∷ []
      → Made before e
  rejected took n tag reason is numbered few faulty outs =
      by (bytes_eq (type_of took.raw) (codes "4")) refl
    where
      among : In (reject_out took.side n tag reason took.number (type_of took.raw))
          (outs_to took.side e.outs)
      among = subst (λ (l : List Out).
          In (reject_out took.side n tag reason took.number (type_of took.raw))
          (outs_to took.side l)) (sym outs)
          (subst (λ (b : Bool).
          In (reject_out took.side n tag reason took.number (type_of took.raw))
          (cond b (reject_out took.side n tag reason took.number (type_of took.raw) ∷ []) []))
          (sym (own_side took.side)) (inl refl))

      by : (b : Bool) → bytes_eq (type_of took.raw) (codes "4") ≡ b → Made before e
      by true test = absurd (unbroken (subst Breaks (sym outs) (inl (record {
        tag = tag;
        reason = reason;
        named = took.number;
        msg_type = type_of took.raw;
        breaks = breaks_by tag reason (faulty_tag took.side (type_of took.raw)
            (fields_of took.raw) tag reason faulty test);
        is = refl;
      }))))
      by false test =
          MadeOff took (reject_out took.side n tag reason took.number (type_of took.raw))
          (record { is = is; numbered = numbered; no_reset = test })
          (record { outs = outs; to = refl })
          (refuses took.number (omega (arith, few))
          (content.said took.side (admin.Reject tag reason) 0 n took.number (type_of took.raw) [])
          (reject_names took.side n tag reason took.number (type_of took.raw))
          (reject_given names took.side
          (reject_out took.side n tag reason took.number (type_of took.raw)) _
          (sent took.side (reject_out took.side n tag reason took.number (type_of took.raw)) among)
          refl refl refl) took.side n false)

  -- ---- each

  bound_of : (t : Option Took) (took : Took) → IfSome t IsTook → t ≡ Some took
      → took.number ≤ MAX_NUMBER
  bound_of t took is same = (subst (λ (o : Option Took). IfSome o IsTook) same is).below

  by_made : (active : Bool) (asked : Option Asked) (words : Option Words)
      → ((a : Asked) → asked ≡ Some a → IsApplication a) → Answers before active asked words
      → IsNumbered e.took → IsMade asked words e → Made before e
  by_made active asked words app answer numbered_took (Answering took is about are) =
      answered active took (record {
        is = is;
        numbered = subst IsNumbered is numbered_took;
        no_reset = no_reset took.side (type_of took.raw) (fields_of took.raw)
            (app (asked_about took) about);
      }) (bound_of e.took took bounds.took is) words
      (subst (λ (o : Option Asked). Answers before active o words) about answer) are
  by_made active asked words app answer numbered_took (Rejects took n tag reason is faulty outs) =
      rejected took n tag reason is (subst IsNumbered is numbered_took)
      (bound_of e.took took bounds.took is) faulty outs
  by_made active asked words app answer numbered_took (Breaking is) = absurd (unbroken is)
  by_made active asked words app answer numbered_took (Rests session admins) =
      MadeRest session admins

  -- WHAT AN ENTRY IS
  pub made : IsDecided Answers names before e → Made before e
  made d =
      let active = is_active d.sessions.venue.link in
      let asked = asked_of names d.window d.sessions d.event e.at in
      let silence = silent_by before active asked d.decides.words d.decides.answer in
      let m = makes names d.window d.sessions d.event e.at d.decides.words d.decision e d.sides
      silence d.decides.decided d.is in
      by_made active asked d.decides.words
      (asked_app names d.window e.at d.sessions d.event) d.decides.answer m.numbered m.made
