-- Inside: how the code comes to a plan; no clause of a public call rests on it.
use Rattle.std.specs.Prelude.{◌≡◌, ℕ, ◌+◌, ◌≤◌, ◌<◌, ◌^◌, Bool, true, false, List, [], ◌∷◌, ◌++◌}
use Rattle.std.specs.Prelude.{length, Option, Some, None, Result, Ok, Err, if◌then◌else◌}
use Rattle.std.specs.Option.{option_map, option_to_list}
use Rattle.order_meaning.specs.declared.Side.{Side}
use Rattle.order_chains.specs.declared.item.ChainItem.{ChainItem}
use Rattle.session_core.specs.declared.act.Act.{Act}
use Rattle.session_core.specs.declared.act.Act.TheVariants.{Say}
use Rattle.session_core.specs.declared.act.Admin.{Admin}
use Rattle.session_core.specs.declared.act.Admin.TheVariants as admin
use Rattle.session_core.specs.declared.act.Why.{Why}
use Rattle.session_core.specs.declared.act.Why.TheVariants as why
use Rattle.session_core.specs.declared.session.Spent.{Spent}
use Rattle.session_core.specs.declared.session.Step.{Step}
use Rattle.session_core.specs.declared.session.Session.{Session}
use Rattle.session_core.specs.Table.{Input, step, says, is_spent}
use Rattle.pair_entries.specs.declared.TheConstants.{MAX_CONTENT}
use Rattle.pair_entries.specs.declared.entry.Took.{Took}
use Rattle.pair_entries.specs.declared.entry.Out.{Out}
use Rattle.pair_entries.specs.declared.entry.Entry.{Entry}
use Rattle.kept_entries.specs.Given.{source_of}
use Rattle.pair_entries.specs.Payload.{Next}
use Rattle.event_decisions.specs.Decide.{Sessions, Heard, Given, Words, Decision, Repeat, give}
use Rattle.event_decisions.specs.Decide.{session_of, with_session, numbers_of, says_of, hangs_up}
use Rattle.event_decisions.specs.Decide.{entry_if, repeat_of, asks, is_active}
use Rattle.event_decisions.specs.Laws.{AreWords}
use Rattle.message_answers.specs.declared.answer.Answer.{Answer as GivenAnswer}
use Rattle.message_answers.specs.declared.asking.Asked.{Asked as GivenAsked}
use Rattle.message_answers.specs.declared.asking.Words.{Words as GivenWords}
use Rattle.gateway_core.specs.declared.outs.Heard.{Heard as GivenHeard}
use Rattle.gateway_core.specs.declared.sessions.Given.{Given as CodeGiven}
use Rattle.gateway_core.specs.declared.plan.Plan.{Plan}
use Rattle.gateway_core.specs.declared.plan.PlanError.{PlanError}
use Rattle.gateway_core.specs.declared.plan.PlanError.TheVariants as errors
use Rattle.message_answers.specs.Answer.{AnswersBy}
use Rattle.message_answers.specs.Chains.{new_item}
use Rattle.message_answers.specs.Known.{Known}
use Rattle.message_answers.specs.Seen.{asked_in}
use Rattle.gateway_core.specs.State.{CoreState, decision_of}

-- ---- what is said keeps the bounds of an entry

-- a session's message has numbers of 32 bits
abbrev pub HasReasonWords : Why → Type 0
HasReasonWords (why.TooLow expected got) = (expected < 2 ^ 32) × (got < 2 ^ 32)
HasReasonWords (why.Logon tag) = tag < 2 ^ 32
HasReasonWords other = Unit {0}

abbrev pub HasWords : Admin → Type 0
HasWords (admin.Logout reason) = HasReasonWords reason
HasWords (admin.ResendRequest from) = from < 2 ^ 32
HasWords (admin.Reject tag reason) = (tag < 2 ^ 32) × (reason < 2 ^ 32)
HasWords other = Unit {0}

-- a TestReqID(112) fits the content of a Heartbeat
abbrev pub IsEcho : List ℕ → Type 0
IsEcho echo = length echo + 5 ≤ MAX_CONTENT

-- among these acts is a Heartbeat that answers a TestRequest
abbrev pub echoes : List Act → Bool
echoes [] = false
echoes (Say (admin.Heartbeat true) ∷ acts) = true
echoes (act ∷ acts) = echoes acts

-- the messages among these acts may stand in an entry, numbered from this number on
pub record IsSayable (first : ℕ) (acts : List Act) (echo : List ℕ) : Type 0 where
  pub few : says acts ≤ 2
  pub unspent : is_spent first (says acts) ≡ false
  pub fits : echoes acts ≡ true → IsEcho echo

-- every step is so
abbrev pub StepsAreSayable : Type 0
StepsAreSayable = (s : Session) (input : Input) (now : ℕ) (t : Step) → step s input now ≡ Ok t
    → (says t.acts ≤ 2) × (is_spent s.numbers.next_out (says t.acts) ≡ false)

-- ---- what the code keeps

-- what is taken where this is asked
abbrev pub asked_took : GivenAsked → Took
asked_took a = record { side = a.side; number = a.number; raw = a.body.now }

-- the application is asked where a message is taken and is the application's
abbrev pub is_asked : Option Took → Input → List Act → Bool
is_asked None input acts = false
is_asked (Some took) input acts = asks input acts

abbrev pub heard_by : GivenHeard → Heard
heard_by h = record { number = h.number; msg_type = h.msg_type.now; echo = h.echo.now }

abbrev pub words_by : Option GivenWords → Option Words
words_by words = option_map (λ w. record { to = w.to; said = w.said; resend = w.resend }) words

abbrev pub given_by : CodeGiven → Given
given_by g = record { outs = option_to_list g.out; sessions = g.sessions }

abbrev pub gave : Result CodeGiven Side → Result Given Side
gave (Ok g) = Ok (given_by g)
gave (Err side) = Err side

abbrev pub repeat_by : Option (Side × ℕ × ℕ) → Option Repeat
repeat_by resend = option_map (λ r. record { side = r.0; from = r.1; to = r.2 }) resend

-- ---- a decision by its parts

abbrev pub entry_by : Option Took → (own : List Out) → Given → ℕ → Entry
entry_by took own given now = record {
  at = now;
  reset = false;
  took = took;
  next = numbers_of given.sessions;
  outs = own ++ given.outs;
}

abbrev pub decision_by : Sessions → Side → List Act → Option Took → (own : List Out) → Given → ℕ
    → Decision
decision_by s side acts took own given now = record {
  entry = entry_if (numbers_of s) (entry_by took own given now);
  sessions = given.sessions;
  repeat = repeat_of side acts;
  hang_up = if hangs_up acts then Some side else None;
}

abbrev pub concluded_by : Sessions → Side → Heard → Option Took → Step → ℕ → Result Given Side
    → Result Decision Side
concluded_by s side heard took step now (Err spent) = Err spent
concluded_by s side heard took step now (Ok given) = Ok (decision_by s side step.acts took
    (says_of side step.next.heart heard (session_of side s).numbers.next_out step.acts) given now)

-- what a step settles with what is taken and what is answered
abbrev pub resolved : Sessions → Side → Heard → Option Took → Option Words → Step → ℕ
    → Result Decision Side
resolved s side heard took words step now = concluded_by s side heard took step now
    (give now (with_session side step.next s) words)

abbrev pub silent : Heard
silent = record { number = 0; msg_type = []; echo = [] }

-- a step at which no message comes
abbrev pub quiet_by : Sessions → Side → ℕ → Result Step Spent → Result Decision Side
quiet_by s side now (Err spent) = Err side
quiet_by s side now (Ok step) = resolved s side silent None None step now

-- this is decided, or there is no memory
abbrev pub Comes : Result Decision Side → Result Plan PlanError → Type 0
Comes decided (Ok plan) = decided ≡ Ok (decision_of plan)
Comes decided (Err (errors.NumbersSpent side)) = decided ≡ Err side
Comes decided (Err errors.NoMemory) = Unit {0}

-- ---- the request that joins

-- it is that of the entry that takes this and gives out these words behind a session's own
abbrev pub JoinsWith : List ChainItem → Option Took → (own : List Out) → Option Words
    → Option ChainItem → Type 0
JoinsWith chains took own words item =
    (at : ℕ) (next : Next) (added : List Out) → AreWords words added
    → item ≡ new_item chains (record {
      at = at;
      reset = false;
      took = took;
      next = next;
      outs = own ++ added;
    })

-- it joins where there is an entry
abbrev pub with_entry : Option ChainItem → Option Entry → Option ChainItem
with_entry item None = None
with_entry item (Some entry) = item

-- ---- what is answered

-- what a core knows of a journal
abbrev pub known_by : CoreState → (journal : List Entry) → Known
known_by core journal = record {
  chains = core.chains;
  source = λ side number. source_of side number journal;
}

-- what is asked is answered, and the request joins that an entry forwards which took it; or nothing
-- was asked
abbrev pub IsAnswered : CoreState → (journal : List Entry) → GivenAsked → Bool → GivenAnswer
    → Type 0
IsAnswered core journal a false answer = (words_by answer.words ≡ None) × (answer.item ≡ None)
IsAnswered core journal a true answer =
    AnswersBy (known_by core journal) (is_active core.venue.link) (Some (asked_in a))
    (words_by answer.words) × ((entry : Entry) → entry.took ≡ Some (asked_took a)
    → AreWords (words_by answer.words) entry.outs → answer.item ≡ new_item core.chains entry)
