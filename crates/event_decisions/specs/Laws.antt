-- Own: what holds of every decision: what the layers above need of it; docs/DECISIONS.md, "The
-- core".
use Rattle.std.specs.Prelude.{◌≡◌, ◌⊎◌, ◌-◌, ◌≤◌, ◌==◌, ◌||◌, ℕ, Bool, true, false, List, [], ◌∷◌}
use Rattle.std.specs.Prelude.{Option, Some, None, Ok}
use Rattle.order_meaning.specs.declared.Side.{Side}
use Rattle.order_meaning.specs.declared.names.Names.{Names}
use Rattle.field_groups.specs.Fields.{SplitsInto}
use Rattle.session_core.specs.declared.act.Admin.TheVariants as admin
use Rattle.session_core.specs.declared.head.What.{What}
use Rattle.session_core.specs.declared.head.What.TheVariants as what
use Rattle.session_core.specs.declared.reason.TheConstants.{COMP_ID_PROBLEM}
use Rattle.session_core.specs.declared.tag.TheConstants.{NEW_SEQ_NO, SENDING_TIME}
use Rattle.session_logon.specs.Content.{said}
use Rattle.session_logon.specs.Head.{kind_of, number_in}
use Rattle.pair_entries.specs.declared.entry.Took.{Took}
use Rattle.pair_entries.specs.declared.entry.Out.{Out}
use Rattle.pair_entries.specs.declared.entry.Entry.{Entry}
use Rattle.kept_entries.specs.Numbers.{GoesOn, TookGoesOn, Taking, Counts, Fills, Resets}
use Rattle.kept_entries.specs.Numbers.{next_in, next_out}
use Rattle.event_decisions.specs.Body.{reading_of, fields_of, type_of}
use Rattle.event_decisions.specs.Event.{Event, Frame}
use Rattle.event_decisions.specs.Decide.{Sessions, AreSides, Asked, Words, Decision, Repeat}
use Rattle.event_decisions.specs.Decide.{numbers_of, asked_of, decide, out_of, is_for_application}

-- the fields of a body are those into which it splits
abbrev pub BodiesAreRead : Type 0
BodiesAreRead =
    (body : List ℕ) → SplitsInto body (reading_of body).fields (reading_of body).fault

-- what is taken at an event is its frame
abbrev pub IsTookOf : Event → Option Took → Type 0
IsTookOf event None = Unit {0}
IsTookOf event (Some took) = event ≡ Frame took.side took.raw

-- A decision goes on from the sessions before it.
pub record Continues (before : Sessions) (event : Event) (d : Decision) : Type 0 where
  -- its entry goes on from their numbers, and leads to those of the sessions after it
  pub goes_on : (entry : Entry) → d.entry ≡ Some entry → GoesOn (numbers_of before) entry
  pub next : (entry : Entry) → d.entry ≡ Some entry → entry.next ≡ numbers_of d.sessions
  -- and begins no day
  pub same_day : (entry : Entry) → d.entry ≡ Some entry → entry.reset ≡ false
  -- without an entry no number changes
  pub same : d.entry ≡ None → numbers_of d.sessions ≡ numbers_of before
  pub took : (entry : Entry) → d.entry ≡ Some entry → IsTookOf event entry.took
  pub sides : AreSides d.sessions
  -- what is sent again was given out before
  pub from : (r : Repeat) → d.repeat ≡ Some r → 1 ≤ r.from
  pub to : (r : Repeat) → d.repeat ≡ Some r → r.to ≤ next_out r.side (numbers_of before) - 1

-- each does, whatever words answer the event
abbrev pub DecisionsContinue : Type 0
DecisionsContinue =
    (names : Names) (window : ℕ) (s : Sessions) (event : Event) (now : ℕ) (words : Option Words)
    (d : Decision) → AreSides s → decide names window s event now words ≡ Ok d →
    Continues s event d

-- ---- what an entry is

-- what a taken message is, by MsgType(35) and the fields of its body
abbrev pub what_of : Side → List ℕ → What
what_of side raw = kind_of side (type_of raw) (fields_of raw)

-- what taking a message of a side does to the number that is expected
abbrev pub taking_by : What → Taking
taking_by (what.GapFill to) = Fills to
taking_by (what.Reset to) = Resets to
taking_by other = Counts

abbrev pub taking_of : Side → List ℕ → Taking
taking_of side raw = taking_by (what_of side raw)

-- a session's Reject of the message of this number and type
abbrev pub reject_out : Side → (number : ℕ) → (tag reason : ℕ) → (named : ℕ) → (msg_type : List ℕ)
    → Out
reject_out side number tag reason named msg_type =
    out_of side number false (said side (admin.Reject tag reason) 0 number named msg_type [])

-- a Reject for the CompIDs, for SendingTime(52) or for NewSeqNo(36): what it names may not have
-- been taken, or was taken for its number alone
abbrev pub is_breaking : (tag reason : ℕ) → Bool
is_breaking tag reason = reason == COMP_ID_PROBLEM || (tag == SENDING_TIME || tag == NEW_SEQ_NO)

pub record IsBreaking (out : Out) : Type 0 where
  pub tag : ℕ
  pub reason : ℕ
  pub named : ℕ
  pub msg_type : List ℕ
  pub breaks : is_breaking tag reason ≡ true
  pub is : out ≡ reject_out out.side out.number tag reason named msg_type

-- one of these is
abbrev pub Breaks : List Out → Type 0
Breaks [] = ⊥
Breaks (out ∷ outs) = IsBreaking out ⊎ Breaks outs

-- messages of a session, for which a gap fill stands where messages are sent again
abbrev pub AreAdmin : List Out → Type 0
AreAdmin [] = Unit {0}
AreAdmin (out ∷ outs) = (out.admin ≡ true) × AreAdmin outs

-- a message of a session was taken, or none
abbrev pub IsOfSession : Option Took → Type 0
IsOfSession None = Unit {0}
IsOfSession (Some took) = is_for_application (what_of took.side took.raw) ≡ false

-- these words alone are given out, or nothing
abbrev pub AreWords : Option Words → List Out → Type 0
AreWords None outs = outs ≡ []
AreWords (Some words) outs =
    (number : ℕ) × (outs ≡ out_of words.to number words.resend words.said ∷ [])

abbrev pub asked_about : Took → Asked
asked_about took = record { side = took.side; number = took.number; body = took.raw }

-- What an entry is, where these words answer what was asked: an answer to the message that it took;
-- a session's Reject of that message, which is a faulty one of the session; a Reject that names a
-- message for its head or its NewSeqNo(36); or messages of the sessions alone.
pub data IsMade (asked : Option Asked) (words : Option Words) (e : Entry) : Type 0 where
  Answers : (took : Took) → e.took ≡ Some took → asked ≡ Some (asked_about took)
      → AreWords words e.outs → IsMade asked words e
  Rejects : (took : Took) → (number tag reason : ℕ) → e.took ≡ Some took
      → what_of took.side took.raw ≡ what.Faulty tag reason
      → e.outs ≡ reject_out took.side number tag reason took.number (type_of took.raw) ∷ []
      → IsMade asked words e
  Breaking : Breaks e.outs → IsMade asked words e
  Rests : IsOfSession e.took → AreAdmin e.outs → IsMade asked words e

-- the number of a taken message is that of its body
abbrev pub IsNumbered : Option Took → Type 0
IsNumbered None = Unit {0}
IsNumbered (Some took) = number_in (fields_of took.raw) ≡ Some took.number

abbrev pub counts : Side → List ℕ → Taking
counts side raw = Counts

pub record Makes (before : Sessions) (asked : Option Asked) (words : Option Words) (e : Entry)
    : Type 0 where
  pub made : IsMade asked words e
  -- the took was expected and counts by its body; or its head was wrong, and it counts one
  pub taken : TookGoesOn taking_of (numbers_of before) e
      ⊎ (TookGoesOn counts (numbers_of before) e × Breaks e.outs)
  pub numbered : IsNumbered e.took
  -- no number that is expected goes down
  pub rises : (side : Side) → next_in side (numbers_of before) ≤ next_in side e.next

-- words come only where something was asked
abbrev pub IsSilent : Option Asked → Option Words → Type 0
IsSilent None words = words ≡ None
IsSilent (Some asked) words = Unit {0}

-- each entry that is decided is so
abbrev pub DecisionsMake : Type 0
DecisionsMake =
    (names : Names) (window : ℕ) (s : Sessions) (event : Event) (now : ℕ) (words : Option Words)
    (d : Decision) (e : Entry) → AreSides s → IsSilent (asked_of names window s event now) words
    → decide names window s event now words ≡ Ok d → d.entry ≡ Some e
    → Makes s (asked_of names window s event now) words e
