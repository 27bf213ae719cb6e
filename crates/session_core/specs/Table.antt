-- Standard: FIX 4.2, "Session Protocol" and "Administrative Messages"; FIXT 1.1, the same chapters.
--
-- The session table: what one FIX session of the gateway does with each thing that may happen to
-- it.
--
-- `row_of` is the table's left half: by the state of the link and by what happens, the first row
-- that applies. `effect_of` is its right half: a line for each row, with its acts in order and the
-- session afterwards. `step` joins them, counts the row's own messages, and says where no number is
-- left for one of them.
--
-- The gateway accepts the client's session (FIX 4.2) and opens the venue's (FIXT 1.1). What stands
-- here is the same in both: the chapters "Session Protocol" and "Administrative Messages", by whose
-- titles the rows go. A row or a part of one that is marked "own" is the gateway's choice where
-- they leave one.
--
--   S1 S2         Logon: the side that opens the connection logs on first
--   S3 S4         own: a lost connection leaves nothing outstanding but the numbers; without one
--                 nothing is answered
--   S5            Logon: the first message is a Logon, of the right names and time, or the
--                 connection is hung up
--   S6            Logon: a Logon that is refused is answered by a Logout. ResetSeqNumFlag(141) is
--                 good on the very first Logon of a side alone (own)
--   S7 S20        Possible Duplicates: an old message with PossDupFlag(43) was taken before;
--                 OrigSendingTime(122) is not looked at (own)
--   S8 S19        Sequence Numbers: a low number without PossDupFlag is a serious error and ends
--                 the session
--   S9 S11        Logon: the acceptor answers by a Logon of its own, the initiator has had its
--                 answer
--   S10 S12       Logon, Message Recovery: the Logon is accepted, and what is missing is asked for
--   S13           own: a message without a number can be neither taken nor asked for again
--   S14 S15       Reject (session-level) and Logout: wrong names or a wrong time are rejected and
--                 end the session
--   S16 S17 S18   Sequence Reset, Reset mode: its own number is ignored; it may only raise the
--                 expected number
--   S21 S30       Logout: it is answered by a Logout, and the gateway hangs up at once (own)
--   S22           Resend Request: it is answered first though it is early, so that two sides that
--                 ask do not wait for one another
--   S23           Ordered Message Processing, Resend Request: an early message is dropped, and all
--                 from the expected number on are asked for; at most one request is outstanding
--                 (own)
--   S24 S31       Sequence Numbers: the expected message is taken
--   S25           Test Request: it is answered by a Heartbeat with its TestReqID(112)
--   S26           Resend Request
--   S27 S28       Sequence Reset, Gap Fill mode: it may only raise the expected number
--   S29           Reject (session-level): a message that breaks a rule is rejected, and its number
--                 is used up
--   S32           own: a Logon is awaited for ten seconds
--   S33 S34       Heartbeat, Test Request: a Heartbeat after HeartBtInt(108) without a message
--                 sent; a TestRequest after HeartBtInt and some time of silence, here a fifth of
--                 it; the end after as much silence again. A gap that stays is asked for again
--                 after HeartBtInt (own)
--   S35 S36       Logout: the gateway ends the session, and hangs up at once (own)
use Rattle.std.specs.Prelude.{ℕ, ◌+◌, ◌-◌, ◌*◌, Bool, true, false, ◌==◌, ◌&&◌, ◌||◌, nat_lt, nat_le}
use Rattle.std.specs.Prelude.{max, min, if◌then◌else◌, List, [], ◌∷◌, ◌++◌, Some, None, Ok, Err}
use Rattle.std.specs.Prelude.{is_none, count_by}
use Rattle.std.specs.declared.option.Option.{Option}
use Rattle.std.specs.declared.result.Result.{Result}
use Rattle.std.specs.declared.cmp.Ordering.{Ordering}
use Rattle.std.specs.declared.cmp.Ordering.TheVariants.{Less, Equal, Greater}
use Rattle.std.specs.Ordering.{nat_cmp}
use Rattle.order_meaning.specs.declared.Side.{Side}
use Rattle.order_meaning.specs.declared.Side.TheVariants.{Client, Venue}
use Rattle.session_core.specs.declared.numbers.TheConstants.{ALL_USED}
use Rattle.session_core.specs.declared.tag.TheConstants.{NEW_SEQ_NO, SENDING_TIME}
use Rattle.session_core.specs.declared.tag.TheConstants.{RESET_SEQ_NUM_FLAG}
use Rattle.session_core.specs.declared.reason.TheConstants.{COMP_ID_PROBLEM, VALUE_IS_INCORRECT}
use Rattle.session_core.specs.declared.tick.TheConstants.{LOGON_WAIT, SECOND, SILENCE}
use Rattle.session_core.specs.declared.tick.TheConstants.{HEART_OF_NONE}
use Rattle.session_core.specs.declared.session.LinkState.{LinkState}
use Rattle.session_core.specs.declared.session.LinkState.TheVariants.{Down, Wait, Asked, Active}
use Rattle.session_core.specs.declared.session.Ask.{Ask}
use Rattle.session_core.specs.declared.session.Session.{Session}
use Rattle.session_core.specs.declared.head.Head.{Head}
use Rattle.session_core.specs.declared.head.What.{What}
use Rattle.session_core.specs.declared.head.What.TheVariants as what
use Rattle.session_core.specs.declared.act.Why.{Why}
use Rattle.session_core.specs.declared.act.Why.TheVariants as why
use Rattle.session_core.specs.declared.act.Admin.TheVariants as admin
use Rattle.session_core.specs.declared.act.Act.{Act}
use Rattle.session_core.specs.declared.act.Act.TheVariants.{Take, Skip, Say, Resend, HangUp}
use Rattle.session_core.specs.declared.session.Step.{Step}
use Rattle.session_core.specs.declared.session.Spent.{Spent}

-- What may happen to a session: its connection opened or was lost, a whole frame came, time went
-- by, the gateway ends.
pub data Input : Type 0 where
  Opened : Input
  Closed : Input
  Message : (head : Head) → Input
  Tick : Input
  End : Input

-- The rows, each with what it has from the message. `Quiet` is a tick that no row speaks of.
pub data Row : Type 0 where
  S1 S2 S3 : Row
  S4 : (skips : Bool) → Row
  S5 : Row
  S6 : (tag : ℕ) → Row
  S7 S8 : Row
  S9 : (heart : ℕ) (reset : Bool) → Row
  S10 : (heart : ℕ) → Row
  S11 S12 S13 : Row
  S14 : (tag : ℕ) → Row
  S15 : (reason : ℕ) → Row
  S16 : (to : ℕ) → Row
  S17 : Row
  S18 : (reason : ℕ) → Row
  S19 S20 S21 : Row
  S22 : (from to : ℕ) (dup : Bool) → Row
  S23 : (dup : Bool) → Row
  S24 S25 : Row
  S26 : (from to : ℕ) → Row
  S27 : (to : ℕ) → Row
  S28 : Row
  S29 : (tag reason : ℕ) → Row
  S30 S31 S32 S33 S34 S35 S36 : Row
  Quiet : Row

-- ---- the left half: which row applies. In each part the first line that fits goes first.

-- a Logon with ResetSeqNumFlag(141) Y is good as the very first message of a side alone; the
-- gateway has by then sent its own Logon to the venue, and nothing to the client (own)
abbrev pub is_fresh : ℕ → Session → Bool
is_fresh n s = n == 1 && s.numbers.next_in == 1 && s.numbers.next_out == first_out s.side
  where
    first_out : Side → ℕ
    first_out Client = 1
    first_out Venue = 2

-- Before the Logon: the state, the message, whether a Logon with 141=Y is fresh, how the number
-- stands to the expected one, and PossDupFlag(43).
abbrev pub logon_row : LinkState → What → Bool → Ordering → Bool → Row
logon_row link (what.BadLogon tag) fresh place dup = S6 tag
logon_row link (what.Logon heart true) false place dup = S6 RESET_SEQ_NUM_FLAG
logon_row link (what.Logon heart reset) fresh Less true = S7
logon_row link (what.Logon heart reset) fresh Less false = S8
logon_row Wait (what.Logon heart reset) fresh Equal dup = S9 heart reset
logon_row Wait (what.Logon heart reset) fresh Greater dup = S10 heart
logon_row link (what.Logon heart reset) fresh Equal dup = S11
logon_row link (what.Logon heart reset) fresh Greater dup = S12
logon_row link other fresh place dup = S5

-- the same, by the number, the faults of the names and of the time
abbrev pub waiting_case : Option ℕ → Option ℕ → Option ℕ → What → Bool → Session → Row
waiting_case (Some n) None None w dup s =
    logon_row s.link w (is_fresh n s) (nat_cmp n s.numbers.next_in) dup
waiting_case number comp time w dup s = S5

-- Logged on: a number above the expected one.
abbrev pub early_row : What → Bool → Row
early_row what.Logout dup = S21
early_row (what.ResendRequest from to) dup = S22 from to dup
early_row other dup = S23 dup

-- Logged on: the expected number n.
abbrev pub expected_row : What → ℕ → Row
expected_row what.TestRequest n = S25
expected_row (what.ResendRequest from to) n = S26 from to
expected_row (what.GapFill to) n = if nat_lt n to then S27 to else S28
expected_row (what.Faulty tag reason) n = S29 tag reason
expected_row what.Logout n = S30
expected_row what.Reject n = S31
expected_row what.App n = S31
expected_row other n = S24

-- Logged on: the message, how its number n stands to the expected one, and PossDupFlag(43). A
-- SequenceReset that is no gap fill goes by no number.
abbrev pub numbered_row : What → Ordering → Bool → ℕ → ℕ → Row
numbered_row (what.Reset to) place dup n expected = if nat_le expected to then S16 to else S17
numbered_row (what.FaultyReset tag reason) place dup n expected = S18 reason
numbered_row other Less false n expected = S19
numbered_row other Less true n expected = S20
numbered_row other Greater dup n expected = early_row other dup
numbered_row other Equal dup n expected = expected_row other n

-- the same, by the number, the faults of the names and of the time
abbrev pub active_case : Option ℕ → Option ℕ → Option ℕ → What → Bool → Session → Row
active_case None comp time w dup s = S13
active_case (Some n) (Some tag) time w dup s = S14 tag
active_case (Some n) None (Some reason) w dup s = S15 reason
active_case (Some n) None None w dup s =
    numbered_row w (nat_cmp n s.numbers.next_in) dup n s.numbers.next_in

-- a message, by the state of the link
abbrev pub waiting_row : Head → Session → Row
waiting_row head s = waiting_case head.number head.comp head.time head.what head.dup s

abbrev pub active_row : Head → Session → Row
active_row head s = active_case head.number head.comp head.time head.what head.dup s

abbrev pub message_row : LinkState → Head → Session → Row
message_row Down head s = S4 true
message_row Wait head s = waiting_row head s
message_row Asked head s = waiting_row head s
message_row Active head s = active_row head s

-- the time since a moment, in milliseconds; none where the clock went back
abbrev pub elapsed : ℕ → ℕ → ℕ
elapsed now since = now - since

-- how much silence is too much: 1.2 times HeartBtInt(108), in milliseconds
abbrev pub silence_limit : ℕ → ℕ
silence_limit heart = SILENCE * heart

-- a TestRequest was sent, and nothing came for too long
abbrev pub is_unanswered : Option ℕ → ℕ → ℕ → Bool
is_unanswered None now heart = false
is_unanswered (Some since) now heart = nat_lt (silence_limit heart) (elapsed now since)

abbrev pub tick_row : LinkState → ℕ → Session → Row
tick_row Down now s = S4 false
tick_row Wait now s = if nat_lt LOGON_WAIT (elapsed now s.seen) then S32 else Quiet
tick_row Asked now s = if nat_lt LOGON_WAIT (elapsed now s.seen) then S32 else Quiet
tick_row Active now s = if is_unanswered s.tested now s.heart then S33 else S34

abbrev pub end_row : LinkState → Row
end_row Down = S4 false
end_row Active = S35
end_row link = S36

abbrev pub opened_row : Side → Row
opened_row Client = S1
opened_row Venue = S2

-- the row of an input
abbrev pub row_of : Session → Input → ℕ → Row
row_of s Opened now = opened_row s.side
row_of s Closed now = S3
row_of s (Message head) now = message_row s.link head s
row_of s Tick now = tick_row s.link now s
row_of s End now = end_row s.link

-- ---- the right half: what a row does, to the message numbered n and at the moment `now`

-- the link is lost or hung up: nothing is outstanding any more
abbrev pub down : Session → Session
down s = record s { link = Down; tested = None; ask = None }

-- n is the next number that is expected
abbrev pub expects : ℕ → Session → Session
expects n s = record s { numbers = record s.numbers { next_in = n } }

-- a message that ends the session is used up if its number n is the expected one, and else passed
-- over
abbrev pub take_or_skip : ℕ → Session → Act
take_or_skip n s = if n == s.numbers.next_in then Take else Skip

abbrev pub taken_or_skipped : ℕ → Session → Session
taken_or_skipped n s = if n == s.numbers.next_in then expects (n + 1) s else s

-- what is sent: a Logout, a Reject, the request for all from the expected number on
abbrev pub logout : Why → Act
logout w = Say (admin.Logout w)

abbrev pub reject : ℕ → ℕ → Act
reject tag reason = Say (admin.Reject tag reason)

-- the last number that is sent again: EndSeqNo(16), where 0 means all, but none that was not given
-- before the request
abbrev pub resend_end : ℕ → Session → ℕ
resend_end to s = if to == 0 then s.numbers.next_out - 1 else min to (s.numbers.next_out - 1)

abbrev pub asking : Session → Act
asking s = Say (admin.ResendRequest s.numbers.next_in)

-- A gap below n is asked for where no request is open, and anew at a repeated message; at most one
-- is open (own).
abbrev pub is_asked_for : Bool → Option Ask → Bool
is_asked_for dup ask = is_none ask || dup

abbrev pub ask_after : ℕ → Bool → ℕ → Option Ask → Option Ask
ask_after n dup now None = Some (record { top = n; since = now })
ask_after n true now (Some ask) = Some (record { top = max n ask.top; since = now })
ask_after n false now (Some ask) = Some (record { top = max n ask.top; since = ask.since })

abbrev pub asks : ℕ → Bool → ℕ → Session → Session
asks n dup now s = record s { ask = ask_after n dup now s.ask }

-- an act that comes at this condition alone
abbrev pub only : Bool → Act → List Act
only b act = if b then act ∷ [] else []

-- A tick of a session that is logged on. HeartBtInt(108) 0 means no Heartbeat and no TestRequest.
-- Nothing came for too long, and no TestRequest is out.
abbrev pub is_test_due : ℕ → Session → Bool
is_test_due now s =
    is_none s.tested && nat_lt 0 s.heart && nat_lt (silence_limit s.heart) (elapsed now s.seen)

-- Nothing was sent for HeartBtInt. The TestRequest of this tick was sent before this is asked.
abbrev pub is_heartbeat_due : ℕ → Session → Bool
is_heartbeat_due now s = nat_lt 0 s.heart && nat_le (SECOND * s.heart) (elapsed now said)
  where
    said : ℕ
    said = if is_test_due now s then now else s.said

-- A request is open for more than HeartBtInt, or for more than 30 seconds where that is 0 (own).
abbrev pub is_ask_due : Option Ask → ℕ → ℕ → Bool
is_ask_due None now heart = false
is_ask_due (Some ask) now heart =
    nat_lt (SECOND * (if heart == 0 then HEART_OF_NONE else heart)) (elapsed now ask.since)

abbrev pub asked_again : Option Ask → ℕ → ℕ → Option Ask
asked_again None now heart = None
asked_again (Some ask) now heart =
    Some (if is_ask_due (Some ask) now heart then record ask { since = now } else ask)

abbrev pub tick_acts : ℕ → Session → List Act
tick_acts now s = only (is_test_due now s) (Say admin.TestRequest)
    ++ only (is_heartbeat_due now s) (Say (admin.Heartbeat false))
    ++ only (is_ask_due s.ask now s.heart) (asking s)

abbrev pub ticked : ℕ → Session → Session
ticked now s =
    record s {
      tested = if is_test_due now s then Some now else s.tested;
      ask = asked_again s.ask now s.heart;
    }

-- acts, in order, and the session after them
abbrev pub does : List Act → Session → Step
does acts next = record { acts = acts; next = next }

abbrev pub effect_of : Row → ℕ → ℕ → Session → Step
-- a connection opens: the client logs on first, the gateway to the venue; a connection is lost
effect_of S1 n now s = does [] (record s { link = Wait; seen = now })
effect_of S2 n now s = does (Say (admin.Logon false) ∷ []) (record s { link = Asked; seen = now })
effect_of S3 n now s = does [] (down s)
-- there is no connection
effect_of (S4 skips) n now s = does (only skips Skip) s
-- the Logon is awaited
effect_of S5 n now s = does (HangUp ∷ []) (down s)
effect_of (S6 tag) n now s = does (take_or_skip n s ∷ logout (why.Logon tag) ∷ HangUp ∷ [])
    (down (taken_or_skipped n s))
effect_of S7 n now s = does (Skip ∷ []) s
effect_of S8 n now s = does (Skip ∷ logout (why.TooLow s.numbers.next_in n) ∷ HangUp ∷ []) (down s)
effect_of (S9 heart reset) n now s = does (Take ∷ Say (admin.Logon reset) ∷ [])
    (record (expects (n + 1) s) { link = Active; heart = heart })
effect_of (S10 heart) n now s = does (Skip ∷ Say (admin.Logon false) ∷ asking s ∷ [])
    (record (asks n true now s) { link = Active; heart = heart })
effect_of S11 n now s = does (Take ∷ []) (record (expects (n + 1) s) { link = Active })
effect_of S12 n now s = does (Skip ∷ asking s ∷ []) (record (asks n true now s) { link = Active })
-- logged on: a wrong head
effect_of S13 n now s = does (Skip ∷ logout why.NoNumber ∷ HangUp ∷ []) (down s)
effect_of (S14 tag) n now s =
    does (take_or_skip n s ∷ reject tag COMP_ID_PROBLEM ∷ logout why.CompId ∷ HangUp ∷ [])
    (down (taken_or_skipped n s))
effect_of (S15 reason) n now s =
    does (take_or_skip n s ∷ reject SENDING_TIME reason ∷ logout why.Clock ∷ HangUp ∷ [])
    (down (taken_or_skipped n s))
-- a SequenceReset that is no gap fill
effect_of (S16 to) n now s = does (Take ∷ []) (expects to s)
effect_of S17 n now s = does (Skip ∷ reject NEW_SEQ_NO VALUE_IS_INCORRECT ∷ []) s
effect_of (S18 reason) n now s = does (Skip ∷ reject NEW_SEQ_NO reason ∷ []) s
-- a number below the expected one
effect_of S19 n now s = does (Skip ∷ logout (why.TooLow s.numbers.next_in n) ∷ HangUp ∷ []) (down s)
effect_of S20 n now s = does (Skip ∷ []) s
-- a number above it
effect_of S21 n now s = does (Skip ∷ logout why.Answer ∷ HangUp ∷ []) (down s)
effect_of (S22 from to dup) n now s =
    does (Skip ∷ Resend from (resend_end to s) ∷ only (is_asked_for dup s.ask) (asking s))
    (asks n dup now s)
effect_of (S23 dup) n now s =
    does (Skip ∷ only (is_asked_for dup s.ask) (asking s)) (asks n dup now s)
-- the expected number
effect_of S24 n now s = does (Take ∷ []) (expects (n + 1) s)
effect_of S25 n now s = does (Take ∷ Say (admin.Heartbeat true) ∷ []) (expects (n + 1) s)
effect_of (S26 from to) n now s =
    does (Take ∷ Resend from (resend_end to s) ∷ []) (expects (n + 1) s)
effect_of (S27 to) n now s = does (Take ∷ []) (expects to s)
effect_of S28 n now s = does (Take ∷ reject NEW_SEQ_NO VALUE_IS_INCORRECT ∷ []) (expects (n + 1) s)
effect_of (S29 tag reason) n now s = does (Take ∷ reject tag reason ∷ []) (expects (n + 1) s)
effect_of S30 n now s = does (Take ∷ logout why.Answer ∷ HangUp ∷ []) (down (expects (n + 1) s))
effect_of S31 n now s = does (Take ∷ []) (expects (n + 1) s)
-- time goes by
effect_of S32 n now s = does (HangUp ∷ []) (down s)
effect_of S33 n now s = does (HangUp ∷ []) (down s)
effect_of S34 n now s = does (tick_acts now s) (ticked now s)
effect_of Quiet n now s = does [] s
-- the gateway ends
effect_of S35 n now s = does (logout why.End ∷ HangUp ∷ []) (down s)
effect_of S36 n now s = does (HangUp ∷ []) (down s)

-- ---- what every row does besides

-- every whole frame is a sign of life
abbrev pub heard : Input → ℕ → Session → Session
heard (Message head) now s = record s { seen = now; tested = None }
heard other now s = s

-- the number of a message; a row that speaks of it has one
abbrev pub number_of : Input → ℕ
number_of (Message head) = number head.number
  where
    number : Option ℕ → ℕ
    number (Some n) = n
    number None = 0
number_of other = 0

-- how many messages the acts send
abbrev pub is_say : Act → Bool
is_say (Say a) = true
is_say act = false

abbrev pub says : List Act → ℕ
says acts = count_by is_say acts

-- one of them would take a number past the greatest one
abbrev pub is_spent : ℕ → ℕ → Bool
is_spent next_out sent = nat_lt 0 sent && nat_lt ALL_USED (next_out + sent)

-- a request is closed once the expected number is past the highest early one
abbrev pub still_open : ℕ → Option Ask → Option Ask
still_open next_in None = None
still_open next_in (Some ask) = if nat_lt ask.top next_in then None else Some ask

-- each message sent takes the next number and is the last that was sent
abbrev pub counted : ℕ → ℕ → Session → Session
counted now sent s = record s {
  numbers = record s.numbers { next_out = s.numbers.next_out + sent };
  said = if sent == 0 then s.said else now;
  ask = still_open s.numbers.next_in s.ask;
}

abbrev pub spent : Spent
spent = record {}

abbrev pub settled : ℕ → Step → Result Step Spent
settled now t = if is_spent t.next.numbers.next_out (says t.acts) then Err spent
    else Ok (does t.acts (counted now (says t.acts) t.next))

-- The step of a session at an input and a moment: a whole frame is a sign of life first, and then
-- the row is gone by.
abbrev pub step : Session → Input → ℕ → Result Step Spent
step s input now =
    let h = heard input now s in
    settled now (effect_of (row_of h input now) (number_of input) now h)

-- the next number, for a message that is not of the session's own, and the session that has sent it
abbrev pub given : Session → ℕ → Result (ℕ × Session) Spent
given s now = if is_spent s.numbers.next_out 1 then Err spent
    else Ok (
      s.numbers.next_out,
      record s
          { numbers = record s.numbers { next_out = s.numbers.next_out + 1 }; said = now },
    )
