-- Own: what one event decides, by the session table and the answer to a message;
-- docs/DECISIONS.md, "The core".
--
-- This is the one description of what the gateway does at an event: the plan of an event, a lawful
-- journal and the events of a life are stated by it.
use Rattle.std.specs.Prelude.{◌≡◌, ℕ, ◌+◌, Bool, true, false, ◌==◌, ◌&&◌, List, [], ◌∷◌, ◌++◌}
use Rattle.std.specs.Prelude.{Option, Some, None, Result, Ok, Err, unwrap_or, if◌then◌else◌}
use Rattle.order_meaning.specs.declared.Side.{Side}
use Rattle.order_meaning.specs.declared.Side.TheVariants.{Client, Venue}
use Rattle.order_meaning.specs.declared.names.Names.{Names}
use Rattle.message_tables.specs.Tables.{value_at}
use Rattle.session_core.specs.declared.session.LinkState.{LinkState}
use Rattle.session_core.specs.declared.session.LinkState.TheVariants.{Active}
use Rattle.session_core.specs.declared.session.Session.{Session}
use Rattle.session_core.specs.declared.session.Spent.{Spent}
use Rattle.session_core.specs.declared.session.Step.{Step}
use Rattle.session_core.specs.declared.head.Head.{Head}
use Rattle.session_core.specs.declared.head.What.{What}
use Rattle.session_core.specs.declared.head.What.TheVariants as what
use Rattle.session_core.specs.declared.act.Act.{Act}
use Rattle.session_core.specs.declared.act.Act.TheVariants.{Take, Say, Resend, HangUp}
use Rattle.session_core.specs.declared.said.Said.{Said}
use Rattle.session_core.specs.declared.tag.TheConstants.{TEST_REQ_ID}
use Rattle.session_core.specs.Table as session
use Rattle.session_logon.specs.Content.{said}
use Rattle.session_logon.specs.Head.{head_of}
use Rattle.pair_entries.specs.declared.entry.Took.{Took}
use Rattle.pair_entries.specs.declared.entry.Out.{Out}
use Rattle.pair_entries.specs.declared.entry.Entry.{Entry}
use Rattle.kept_entries.specs.Numbers.{numbers_after, first_numbers}
use Rattle.pair_entries.specs.Payload.{Next}
use Rattle.event_decisions.specs.Body.{fields_of, type_of}
use Rattle.event_decisions.specs.Event.{Event, Opened, Frame, Closed, Tick, End, side_of}

-- ---- messages of the application

-- a message that a session took for the application: whose, its number, its body
pub record Asked : Type 0 where
  pub side : Side
  pub number : ℕ
  pub body : List ℕ

-- a message that is to be given out: to whom, the message, and PossResend(97)
pub record Words : Type 0 where
  pub to : Side
  pub said : Said
  pub resend : Bool

-- ---- the two sessions

pub record Sessions : Type 0 where
  pub client : Session
  pub venue : Session

-- each session is that of its side
pub record AreSides (s : Sessions) : Type 0 where
  pub client : s.client.side ≡ Client
  pub venue : s.venue.side ≡ Venue

abbrev pub session_of : Side → Sessions → Session
session_of Client s = s.client
session_of Venue s = s.venue

abbrev pub with_session : Side → Session → Sessions → Sessions
with_session Client new s = record s { client = new }
with_session Venue new s = record s { venue = new }

-- their next numbers
abbrev pub numbers_of : Sessions → Next
numbers_of s = (
  s.client.numbers.next_in,
  s.client.numbers.next_out,
  s.venue.numbers.next_in,
  s.venue.numbers.next_out,
)

abbrev pub same_numbers : Next → Next → Bool
same_numbers a b = a.0 == b.0 && (a.1 == b.1 && (a.2 == b.2 && a.3 == b.3))

abbrev pub is_active : LinkState → Bool
is_active Active = true
is_active link = false

-- ---- what an event is for its session

abbrev pub head_in : Names → ℕ → Side → List ℕ → ℕ → Head
head_in names window side body now =
    head_of side names window (type_of body) (fields_of body) now

abbrev pub input_of : Names → ℕ → Event → ℕ → session.Input
input_of names window (Opened side) now = session.Opened
input_of names window (Frame side body) now = session.Message (head_in names window side body now)
input_of names window (Closed side) now = session.Closed
input_of names window (Tick side) now = session.Tick
input_of names window (End side) now = session.End

abbrev pub stepped : Names → ℕ → Sessions → Event → ℕ → Result Step Spent
stepped names window s event now =
    session.step (session_of (side_of event) s) (input_of names window event now) now

-- ---- what a session says

-- the message to which a session answers: its number, MsgType(35) and TestReqID(112)
pub record Heard : Type 0 where
  pub number : ℕ
  pub msg_type : List ℕ
  pub echo : List ℕ

abbrev pub heard_in : Event → session.Input → Heard
heard_in (Frame side body) input = record {
  number = session.number_of input;
  msg_type = type_of body;
  echo = unwrap_or (value_at TEST_REQ_ID (fields_of body)) [];
}
heard_in event input = record { number = 0; msg_type = []; echo = [] }

abbrev pub out_of : Side → ℕ → Bool → Said → Out
out_of side number resend words = record {
  side = side;
  number = number;
  admin = words.admin;
  resend = resend;
  msg_type = words.msg_type;
  content = words.content;
}

-- the messages of a session's own among its acts, numbered from this number on
abbrev pub says_of : Side → (heart : ℕ) → Heard → ℕ → List Act → List Out
says_of side heart h n [] = []
says_of side heart h n (Say a ∷ acts) =
    out_of side n false (said side a heart n h.number h.msg_type h.echo)
    ∷ says_of side heart h (n + 1) acts
says_of side heart h n (act ∷ acts) = says_of side heart h n acts

-- ---- what else the acts are

abbrev pub takes : List Act → Bool
takes (Take ∷ acts) = true
takes acts = false

abbrev pub hangs_up : List Act → Bool
hangs_up [] = false
hangs_up (HangUp ∷ acts) = true
hangs_up (act ∷ acts) = hangs_up acts

-- what is sent again to a side: the first and the last number
pub record Repeat : Type 0 where
  pub side : Side
  pub from : ℕ
  pub to : ℕ

abbrev pub repeat_of : Side → List Act → Option Repeat
repeat_of side [] = None
repeat_of side (Resend from to ∷ acts) = Some (record { side = side; from = from; to = to })
repeat_of side (act ∷ acts) = repeat_of side acts

abbrev pub took_if : Bool → Side → List ℕ → Option ℕ → Option Took
took_if true side body (Some number) =
    Some (record { side = side; number = number; raw = body })
took_if taken side body number = None

-- the message that is taken
abbrev pub took_of : Event → session.Input → List Act → Option Took
took_of (Frame side body) (session.Message head) acts = took_if (takes acts) side body head.number
took_of event input acts = None

-- ---- the application

abbrev pub is_for_application : What → Bool
is_for_application what.App = true
is_for_application what.Reject = true
is_for_application other = false

-- a message that is only taken is the application's
abbrev pub asks : session.Input → List Act → Bool
asks (session.Message head) (Take ∷ []) = is_for_application head.what
asks input acts = false

abbrev pub asked_if : Bool → Option Took → Option Asked
asked_if true (Some took) =
    Some (record { side = took.side; number = took.number; body = took.raw })
asked_if asked took = None

abbrev pub asked_by : Event → session.Input → Result Step Spent → Option Asked
asked_by event input (Err spent) = None
asked_by event input (Ok step) = asked_if (asks input step.acts) (took_of event input step.acts)

-- the message about which the application decides at an event
abbrev pub asked_of : Names → ℕ → Sessions → Event → ℕ → Option Asked
asked_of names window s event now =
    asked_by event (input_of names window event now) (stepped names window s event now)

-- ---- the decision

pub record Given : Type 0 where
  pub outs : List Out
  pub sessions : Sessions

-- a message of the application takes the next number of its side; where none is left, of which side
abbrev pub numbered : Sessions → Words → Result (ℕ × Session) Spent → Result Given Side
numbered s words (Err spent) = Err words.to
numbered s words (Ok (number, next)) = Ok (record {
  outs = out_of words.to number words.resend words.said ∷ [];
  sessions = with_session words.to next s;
})

abbrev pub give : ℕ → Sessions → Option Words → Result Given Side
give now s None = Ok (record { outs = []; sessions = s })
give now s (Some words) = numbered s words (session.given (session_of words.to s) now)

-- What one event decides: what is committed, the sessions afterwards, what is sent again, and whose
-- connection is hung up.
pub record Decision : Type 0 where
  pub entry : Option Entry
  pub sessions : Sessions
  pub repeat : Option Repeat
  pub hang_up : Option Side

-- there is an entry exactly where a number changes
abbrev pub entry_if : Next → Entry → Option Entry
entry_if before entry = if same_numbers before entry.next then None else Some entry

abbrev pub concluded : Names → ℕ → Sessions → Event → ℕ → Step → Result Given Side
    → Result Decision Side
concluded names window s event now step (Err side) = Err side
concluded names window s event now step (Ok given) =
    let side = side_of event in
    let input = input_of names window event now in
    let own = says_of side step.next.heart (heard_in event input)
    (session_of side s).numbers.next_out step.acts in
    Ok (record {
      entry = entry_if (numbers_of s) (record {
        at = now;
        reset = false;
        took = took_of event input step.acts;
        next = numbers_of given.sessions;
        outs = own ++ given.outs;
      });
      sessions = given.sessions;
      repeat = repeat_of side step.acts;
      hang_up = if hangs_up step.acts then Some side else None;
    })

abbrev pub decide_by : Names → ℕ → Sessions → Event → ℕ → Option Words → Result Step Spent
    → Result Decision Side
decide_by names window s event now words (Err spent) = Err (side_of event)
decide_by names window s event now words (Ok step) = concluded names window s event now step
    (give now (with_session (side_of event) step.next s) words)

-- What an event decides, where these words answer it; or the side that has no number left for one
-- of the messages. The messages of the event's own session come first.
abbrev pub decide : Names → ℕ → Sessions → Event → ℕ → Option Words → Result Decision Side
decide names window s event now words =
    decide_by names window s event now words (stepped names window s event now)

-- ---- by what answers a message

module _ (answers : List Entry → (active : Bool) → Option Asked → Option Words → Type 0) where
  -- THE DECISION OF AN EVENT behind these entries, or the side whose numbers are spent: some words
  -- answer what is asked, and this is decided with them.
  pub record Decides (names : Names) (window : ℕ) (before : List Entry) (s : Sessions)
      (event : Event) (now : ℕ) (outcome : Result Decision Side) : Type 0 where
    pub words : Option Words
    pub answer : answers before (is_active s.venue.link) (asked_of names window s event now) words
    pub decided : decide names window s event now words ≡ outcome

  -- some event decides this entry behind the entries before it, for some window
  pub record IsDecided (names : Names) (before : List Entry) (entry : Entry) : Type 0 where
    pub window : ℕ
    pub sessions : Sessions
    pub sides : AreSides sessions
    pub numbers : numbers_of sessions ≡ numbers_after first_numbers before
    pub event : Event
    pub decision : Decision
    pub decides : Decides names window before sessions event entry.at (Ok decision)
    pub is : decision.entry ≡ Some entry

  abbrev pub LawfulAfter : Names → List Entry → List Entry → Type 0
  LawfulAfter names before [] = Unit {0}
  LawfulAfter names before (entry ∷ entries) =
      IsDecided names before entry × LawfulAfter names (before ++ entry ∷ []) entries

  -- A LAWFUL DAY: each entry is what some event decides behind those before it
  abbrev pub IsLawful : Names → List Entry → Type 0
  IsLawful names entries = LawfulAfter names [] entries
