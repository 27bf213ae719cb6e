-- Own: what is heard in the messages that the gateway takes and gives out; and that each side
-- learns what the other said.
use Rattle.std.specs.Prelude.{◌≡◌, ◌≤◌, ◌⊎◌, ℕ, Bool, true, List, Ok, Some, None, codes}
use Rattle.std.specs.Prelude.{unwrap_or}
use Rattle.std.specs.Str.{bytes_eq}
use Rattle.message_tables.specs.Tables.{Message}
use Rattle.order_meaning.specs.declared.Side.{Side}
use Rattle.order_meaning.specs.declared.Side.TheVariants.{Client, Venue}
use Rattle.order_meaning.specs.declared.names.Names.{Names}
use Rattle.session_logon.specs.Head.{number_in}
use Rattle.pair_entries.specs.declared.TheConstants.{MAX_NUMBER}
use Rattle.pair_entries.specs.declared.entry.Out.{Out}
use Rattle.pair_entries.specs.declared.entry.Entry.{Entry}
use Rattle.kept_entries.specs.Entries.{AreEntries}
use Rattle.kept_entries.specs.Numbers.{Counts, Fills, Resets, first_numbers}
use Rattle.event_decisions.specs.Body.{fields_of, type_of}
use Rattle.event_decisions.specs.Decide.{Asked, IsLawful, Words, out_of}
use Rattle.event_decisions.specs.Laws.{taking_of, what_of}
use Rattle.message_answers.specs.Answer.{Answers, other}
use Rattle.message_answers.specs.Known.{known_of, named}
use Rattle.message_answers.specs.Laws.{AreNumbered}
use Rattle.message_answers.specs.Message.{is_refusal, message_of, refusal_in}
use Rattle.wires.specs.Wire.{Connection}
use Rattle.life_laws.specs.Receiver.{IsSent, is_administrative, message_of_out, read_body}
use Rattle.life_laws.specs.Receiver.{read_reset}
use Rattle.life_laws.specs.Taken as receiver
use Rattle.life_laws.specs.Taken.{Read, GapFill, Reset, Other}
use Rattle.life_laws.specs.Taken.{AreFronts, committed_below, taken_from}
use Rattle.book_laws.specs.Heard.{Sort, Request, Report, Refusal, Plain, is_reject, Heard}
use Rattle.book_laws.specs.Heard.{heard_body, heard_out, Carries}
use Rattle.book_laws.specs.Learned.{Learned, learned_of_taken, learned_of_said, said_below}

-- ---- ids

-- Ids are equal where the test says so, and no report has one that counts.
pub record IdsAreCompared : Type 0 where
  pub same : (a b : List ℕ) → bytes_eq a b ≡ true → a ≡ b
  pub itself : (a : List ℕ) → bytes_eq a a ≡ true
  pub none : (side : Side) (number : ℕ) (body : List ℕ)
      → (heard_body side number body).sort ≡ Report
      → (heard_body side number body).cl_ord_id ≡ None
  pub none_out : (out : Out) → (heard_out out).sort ≡ Report → (heard_out out).cl_ord_id ≡ None

-- ---- refusals

-- a refusal that is read names what the answer to it goes by
pub record IsHeardRefusal (m : Message) (heard : Heard) : Type 0 where
  pub sort : heard.sort ≡ Refusal
  pub number : heard.number_named ≡ (refusal_in m).number
  pub id : heard.id_named ≡ (refusal_in m).id

abbrev pub RefusalsAreHeard : Type 0
RefusalsAreHeard = (side : Side) (number : ℕ) (body : List ℕ) (m : Message)
    → message_of side body ≡ Ok m → is_refusal m ≡ true
    → IsHeardRefusal m (heard_body side number body)

-- ---- answers

-- a Reject or j that names this number
pub record IsRefusalOf (number : ℕ) (heard : Heard) : Type 0 where
  pub reject : is_reject heard.sort ≡ true
  pub named : heard.number_named ≡ Some number

-- A refusal is returned to the other side, whose own number it names there.
pub record IsReturned (before : List Entry) (asked : Asked) (heard : Heard) : Type 0 where
  pub m : Message
  pub read : message_of asked.side asked.body ≡ Ok m
  pub refusal : is_refusal m ≡ true
  pub number : ℕ
  pub letter : ℕ
  pub source : named (known_of before) asked.side (refusal_in m) ≡ Some (number, letter)
  pub refuses : IsRefusalOf number heard

-- what a side sends that goes on to the other side
abbrev pub sort_from : Side → Sort
sort_from Client = Request
sort_from Venue = Report

-- a request goes on with its id
abbrev pub HasItsId : Side → Heard → Heard → Type 0
HasItsId Client m out = m.cl_ord_id ≡ out.cl_ord_id
HasItsId Venue m out = Unit {0}

-- A message of a side goes on, and is heard as what it was.
pub record IsHeardOn (side : Side) (m out : Heard) : Type 0 where
  pub sort : m.sort ≡ sort_from side
  pub out_sort : out.sort ≡ sort_from side
  pub resend : m.resend ≡ out.resend
  pub id : HasItsId side m out
  pub carries : Carries side m out

abbrev pub heard_asked : Asked → Heard
heard_asked asked = heard_body asked.side asked.number asked.body

-- what is heard in these words under a number
abbrev pub heard_words : Words → ℕ → Heard
heard_words words number = heard_out (out_of words.to number words.resend words.said)

-- WHAT IS HEARD IN AN ANSWER that is given out under a number: to the side that asked, a refusal of
-- what was asked; to the other side, a refusal of that side's own message, or what was heard in
-- what was asked.
pub data IsHeard (before : List Entry) (asked : Asked) (words : Words) (number : ℕ) : Type 0 where
  Off : words.to ≡ asked.side → IsRefusalOf asked.number (heard_words words number)
      → IsHeard before asked words number
  Returned : words.to ≡ other asked.side → IsReturned before asked (heard_words words number)
      → IsHeard before asked words number
  On : words.to ≡ other asked.side
      → IsHeardOn asked.side (heard_asked asked) (heard_words words number)
      → IsHeard before asked words number

-- each answer is
abbrev pub AnswersAreHeard : Type 0
AnswersAreHeard = (before : List Entry) (active : Bool) (asked : Asked) (words : Words) (number : ℕ)
    → AreNumbered before → asked.number ≤ MAX_NUMBER
    → Answers before active (Some asked) (Some words) → IsHeard before asked words number

-- ---- the session

-- the number of a body as it is read
abbrev pub HasNumber : ℕ → Read → Type 0
HasNumber number (Other m admin) = m.number ≡ number
HasNumber number (GapFill own to) = own ≡ number
HasNumber number Reset = Unit {0}

-- A session takes a body as its receiver reads it.
pub record IsReadAlike (side : Side) (raw : List ℕ) : Type 0 where
  -- a message counts, and a gap fill leads to where it says
  pub message : (m : receiver.Message) (admin : Bool)
      → read_body raw ≡ Other m admin → taking_of side raw ≡ Counts
  pub fill : (number to : ℕ) → read_body raw ≡ GapFill number to → taking_of side raw ≡ Fills to
  -- any other SequenceReset(4) counts where its NewSeqNo(36) is faulty, and else resets
  pub reset : read_body raw ≡ Reset
      → (taking_of side raw ≡ Counts) ⊎ ((to : ℕ) × (taking_of side raw ≡ Resets to))
  -- a SequenceReset(4) is read by what the session takes it for
  pub by_kind : bytes_eq (type_of raw) (codes "4") ≡ true → read_body raw
      ≡ read_reset (unwrap_or (number_in (fields_of raw)) 0) (what_of side raw)
  pub numbered : (number : ℕ) → number_in (fields_of raw) ≡ Some number
      → HasNumber number (read_body raw)

abbrev pub BodiesAreReadAlike : Type 0
BodiesAreReadAlike = (side : Side) (raw : List ℕ) → IsReadAlike side raw

-- a message of a session is nothing that an answer or a book depends on
abbrev pub SessionsAreHeardPlain : Type 0
SessionsAreHeardPlain = (side : Side) (number : ℕ) (body : List ℕ)
    → is_administrative (type_of body) ≡ true → (heard_body side number body).sort ≡ Plain

-- the same of one that is sent
abbrev pub SentSessionsAreHeardPlain : Type 0
SentSessionsAreHeardPlain = (names : Names) (side : Side) (out : Out) → IsSent names side out
    → out.admin ≡ true → (heard_out out).sort ≡ Plain

-- ---- what each side learns

-- EACH SIDE LEARNS WHAT WAS SAID: of what was committed to it with numbers below n, what the other
-- side said in the messages that went on under these numbers.
abbrev pub SidesLearn : Type 0
SidesLearn =
    (names : Names) (entries : List Entry) → IsLawful Answers names entries →
    AreEntries first_numbers entries → (side : Side) (n : ℕ) (learned : Learned side) →
    learned_of_taken side learned (committed_below read_body message_of_out side n entries)
    ≡ learned_of_said side learned (said_below side n entries)

-- what a side took of whatever arrived of these connections: it learned what was said
abbrev pub LearnsWhatWasSaid : Side → List Entry → List Connection → Type 0
LearnsWhatWasSaid side entries connections =
    (fronts : List (List ℕ)) → AreFronts fronts connections → (learned : Learned side) →
    let taking = taken_from read_body message_of_out side fronts in
    learned_of_taken side learned taking.taken
    ≡ learned_of_said side learned (said_below side taking.next entries)
