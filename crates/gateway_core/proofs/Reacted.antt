-- From a frame, its head and what its session does with it to the plan.
use Rattle.std.proofs.Common.{◌≡◌, ℕ, Bool, List, [], ◌∷◌, Option, Ok, refl, sym, ap}
use Rattle.std.proofs.Common.{subst, ◌∙◌, unwrap_or}
use Rattle.std.specs.Prelude.{Result}
use Rattle.field_groups.specs.declared.fault.SplitFault.{SplitFault}
use Rattle.field_groups.specs.Field.{Field}
use Rattle.frame_grammar.specs.Frame.{IsBody}
use Rattle.message_tables.specs.Tables.{value_at}
use Rattle.order_meaning.specs.declared.Side.{Side}
use Rattle.order_meaning.specs.declared.names.Names.{Names}
use Rattle.session_core.specs.declared.act.Act.{Act}
use Rattle.session_core.specs.declared.head.Head.{Head}
use Rattle.session_core.specs.declared.session.Session.{Session}
use Rattle.session_core.specs.declared.session.Step.{Step}
use Rattle.session_core.specs.declared.tag.TheConstants.{TEST_REQ_ID}
use Rattle.session_core.specs.Table as session
use Rattle.session_logon.specs.Head.{head_of}
use Rattle.translation.specs.Header.{type_of as type_in}
use Rattle.pair_entries.specs.declared.entry.Took.{Took}
use Rattle.pair_entries.specs.declared.entry.Entry.{Entry}
use Rattle.event_decisions.specs.Body.{Reading, reading_of, fields_of, type_of, first_value}
use Rattle.event_decisions.specs.Decide.{Heard, session_of, head_in, heard_in, takes}
use Rattle.event_decisions.specs.Decide.{took_if, says_of, asks, asked_if, is_active}
use Rattle.event_decisions.specs.Event.{Frame}
use Rattle.message_answers.specs.declared.answer.Answer.{Answer as GivenAnswer}
use Rattle.message_answers.specs.declared.asking.Asked.{Asked as GivenAsked}
use Rattle.message_answers.specs.Answer.{Answers}
use Rattle.message_answers.specs.Seen.{IsSplit}
use Rattle.gateway_core.specs.declared.plan.Plan.{Plan}
use Rattle.gateway_core.specs.declared.plan.PlanError.{PlanError}
use Rattle.gateway_core.specs.Planning.{is_asked, words_by, IsAnswered, JoinsWith, Comes, resolved}
use Rattle.gateway_core.specs.Planning.{IsSayable, StepsAreSayable}
use Rattle.gateway_core.specs.State.{CoreState, Stand, Plans, sessions_in}
use Rattle.gateway_core.proofs.Asked.{answers_as, joins_as}
use Rattle.gateway_core.proofs.Echoes.{echo_fits}
use Rattle.gateway_core.proofs.Planned.{frame_plans}

-- ---- a body, its split and its head

same_type : (fields : List Field) → type_in fields ≡ first_value fields
same_type [] = refl
same_type (field ∷ fields) = refl

pub split_is : (a : GivenAsked) → IsBody a.body.now
    → reading_of a.body.now ≡ record { fields = a.split.now.fields; fault = a.split.now.fault }
    → a.msg_type.now ≡ type_in a.split.now.fields → IsSplit a
split_is a body reading typed = record {
  body = body;
  fields = sym (ap (λ (r : Reading). r.fields) reading);
  fault = sym (ap (λ (r : Reading). r.fault) reading);
  msg_type = typed ∙ same_type a.split.now.fields
      ∙ sym (ap (λ (r : Reading). first_value r.fields) reading);
}

pub head_is : (side : Side) (names : Names) (window : ℕ) (msg_type : List ℕ) (fields : List Field)
    (fault : Option SplitFault) (body : List ℕ) (now : ℕ) (head : Head)
    → reading_of body ≡ record { fields = fields; fault = fault } → msg_type ≡ type_in fields
    → head ≡ head_of side names window msg_type fields now
    → head ≡ head_in names window side body now
head_is side names window msg_type fields fault body now head reading typed is =
    is
    ∙ ap (λ (t : List ℕ). head_of side names window t fields now)
    (typed ∙ same_type fields)
    ∙ ap (λ (r : Reading). head_of side names window (first_value r.fields) r.fields now)
    (sym reading)

-- ---- the step

-- what a session says at a frame may stand in an entry
pub frame_sayable : (core : CoreState) (side : Side) (body : List ℕ) (now : ℕ) (head : Head)
    (t : Step) → StepsAreSayable
    → head ≡ head_in core.config.names core.config.window side body now
    → session.step (session_of side (sessions_in core)) (session.Message head) now ≡ Ok t
    → IsSayable (session_of side (sessions_in core)).numbers.next_out t.acts
    (unwrap_or (value_at TEST_REQ_ID (fields_of body)) [])
frame_sayable core side body now head t laws named is =
    let s : Session = session_of side (sessions_in core) in
    let facts = laws s (session.Message head) now t is in
    record {
      few = facts.0;
      unspent = facts.1;
      fits = λ echo. echo_fits side (type_of body) (fields_of body) s head now t
          (ap (λ (h : Head). h.what) named) is echo;
    }

-- ---- what the application adds

-- what is known of a reaction: what was taken, whether the application is asked, and its answer
pub record Reacts (core : CoreState) (journal : List Entry) (a : GivenAsked) (head : Head)
    (acts : List Act) (took : Option Took) (b : Bool) (answer : GivenAnswer) : Type 0 where
  pub number : a.number ≡ session.number_of (session.Message head)
  pub took_is : took ≡ took_if (takes acts) a.side a.body.now head.number
  pub asked : b ≡ is_asked took (session.Message head) acts
  pub answered : IsAnswered core journal a b answer

module _ (core : CoreState) (journal : List Entry) (a : GivenAsked) (head : Head)
    (acts : List Act) (took : Option Took) (b : Bool) (answer : GivenAnswer)
    (reacts : Reacts core journal a head acts took b answer) where
  asked_is : b ≡ is_asked (took_if (takes acts) a.side a.body.now head.number)
      (session.Message head) acts
  asked_is = reacts.asked
      ∙ ap (λ (t : Option Took). is_asked t (session.Message head) acts) reacts.took_is

  pub reacts_join : (heart : ℕ) (h : Heard) (n : ℕ)
      → JoinsWith core.chains took (says_of a.side heart h n acts) (words_by answer.words)
      answer.item
  reacts_join heart h n = subst (λ (t : Option Took). JoinsWith core.chains t
      (says_of a.side heart h n acts) (words_by answer.words) answer.item) (sym reacts.took_is)
      (joins_as a head acts reacts.number core journal b answer heart h n asked_is reacts.answered)

  -- these words answer what is asked at a frame with these acts
  abbrev AnsweredAt : List Entry → List Act → Type 0
  AnsweredAt before x = Answers before (is_active core.venue.link)
      (asked_if (asks (session.Message head) x)
      (took_if (takes x) a.side a.body.now head.number)) (words_by answer.words)

  pub reacts_plan : (entries : List Entry) (now : ℕ) (step : Step) (h : Heard)
      (r : Result Plan PlanError) → acts ≡ step.acts
      → head ≡ head_in core.config.names core.config.window a.side a.body.now now
      → session.step (session_of a.side (sessions_in core)) (session.Message head) now ≡ Ok step
      → h ≡ heard_in (Frame a.side a.body.now) (session.Message head)
      → Comes (resolved (sessions_in core) a.side h took (words_by answer.words) step now) r
      → Stand core journal entries → Plans core entries (Frame a.side a.body.now) now r
  reacts_plan entries now step h r same named is heard comes stand =
      let took_as : took ≡ took_if (takes step.acts) a.side a.body.now head.number =
      reacts.took_is
      ∙ ap (λ (x : List Act). took_if (takes x) a.side a.body.now head.number) same in
      frame_plans core entries a.side a.body.now now (words_by answer.words) r step head named is
      (subst (λ (x : List Act). AnsweredAt entries x) same
      (answers_as a head acts reacts.number core journal entries b answer stand asked_is
      reacts.answered))
      (subst (λ (t : Option Took). Comes (resolved (sessions_in core) a.side
      (heard_in (Frame a.side a.body.now) (session.Message head)) t (words_by answer.words) step
      now) r) took_as
      (subst (λ (x : Heard). Comes (resolved (sessions_in core) a.side x took
      (words_by answer.words) step now) r) heard comes))

-- what a session answers, as the code has it
abbrev pub heard_as : GivenAsked → (echo : List ℕ) → Heard
heard_as a echo = record { number = a.number; msg_type = a.msg_type.now; echo = echo }

pub heard_is : (a : GivenAsked) (head : Head) (echo : List ℕ) → IsSplit a
    → a.number ≡ session.number_of (session.Message head)
    → echo ≡ unwrap_or (value_at TEST_REQ_ID a.split.now.fields) []
    → heard_as a echo ≡ heard_in (Frame a.side a.body.now) (session.Message head)
heard_is a head echo split number is =
    let all : echo ≡ unwrap_or (value_at TEST_REQ_ID (fields_of a.body.now)) [] =
    is ∙ ap (λ (f : List Field). unwrap_or (value_at TEST_REQ_ID f) []) split.fields in
    λ i. record { number = number i; msg_type = split.msg_type i; echo = all i }
