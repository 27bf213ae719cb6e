-- Standard: what the session protocol asks of every step; laws over the table.
--
-- What the session table keeps, whatever happens to a session.
use Rattle.std.specs.Prelude.{◌≡◌, ℕ, ◌+◌, ◌≤◌, ◌<◌, ◌⊎◌, Bool, true, List, [], ◌∷◌, Some, None}
use Rattle.std.specs.Prelude.{IfOk, Contains}
use Rattle.session_core.specs.declared.head.Head.{Head}
use Rattle.session_core.specs.declared.session.LinkState.TheVariants.{Down, Wait, Asked}
use Rattle.session_core.specs.declared.reason.TheConstants.{COMP_ID_PROBLEM}
use Rattle.session_core.specs.declared.tag.TheConstants.{NEW_SEQ_NO, SENDING_TIME}
use Rattle.session_core.specs.declared.session.Session.{Session}
use Rattle.session_core.specs.declared.session.Step.{Step}
use Rattle.session_core.specs.declared.head.What.{What}
use Rattle.session_core.specs.declared.head.What.TheVariants as what
use Rattle.session_core.specs.declared.act.Admin.TheVariants as admin
use Rattle.session_core.specs.declared.act.Act.{Act}
use Rattle.session_core.specs.declared.act.Act.TheVariants.{Take, Skip, Say, Resend, HangUp}
use Rattle.session_core.specs.Table.{Input, Closed, Message, step, is_fresh}

-- what holds of every step of every session
abbrev pub Always : (Session → Input → ℕ → Step → Type 0) → Type 0
Always P = (s : Session) (input : Input) (now : ℕ) → IfOk (step s input now) (P s input now)

-- the input is a message that has the expected number
abbrev pub IsExpected : Session → Input → Type 0
IsExpected s (Message head) = head.number ≡ Some s.numbers.next_in
IsExpected s other = ⊥

-- the message is a SequenceReset that is no gap fill, to the expected number or a higher one
abbrev pub ResetsFrom : ℕ → What → Type 0
ResetsFrom expected (what.Reset to) = expected ≤ to
ResetsFrom expected other = ⊥

abbrev pub IsReset : Session → Input → Type 0
IsReset s (Message head) = ResetsFrom s.numbers.next_in head.what
IsReset s other = ⊥

-- after a Logout comes a hang up, and then nothing
abbrev pub HangsUpAfterLogout : List Act → Type 0
HangsUpAfterLogout [] = Unit {0}
HangsUpAfterLogout (Say (admin.Logout w) ∷ acts) = acts ≡ HangUp ∷ []
HangsUpAfterLogout (act ∷ acts) = HangsUpAfterLogout acts

-- acts in the order in which they are done: a message is taken or passed over, messages are sent
-- again, the session's own are sent, the connection is hung up
abbrev pub AreLast : List Act → Type 0
AreLast [] = Unit {0}
AreLast (HangUp ∷ []) = Unit {0}
AreLast other = ⊥

abbrev pub AreSays : List Act → Type 0
AreSays (Say a ∷ acts) = AreSays acts
AreSays acts = AreLast acts

abbrev pub AreResendAndSays : List Act → Type 0
AreResendAndSays (Resend from to ∷ acts) = AreSays acts
AreResendAndSays acts = AreSays acts

abbrev pub AreInOrder : List Act → Type 0
AreInOrder (Take ∷ acts) = AreResendAndSays acts
AreInOrder (Skip ∷ acts) = AreResendAndSays acts
AreInOrder acts = AreSays acts

-- the number that is expected after a message that was taken
abbrev pub RaisesTo : What → ℕ → ℕ → Type 0
RaisesTo (what.Reset to) expected next = (next ≡ to) ⊎ (next ≡ expected + 1)
RaisesTo (what.GapFill to) expected next = ((next ≡ to) × (expected < to)) ⊎ (next ≡ expected + 1)
RaisesTo other expected next = next ≡ expected + 1

abbrev pub SetsExpected : Session → Input → ℕ → Type 0
SetsExpected s (Message head) next = RaisesTo head.what s.numbers.next_in next
SetsExpected s other next = ⊥

-- what the application decides about
abbrev pub IsForApplication : What → Type 0
IsForApplication what.Reject = Unit {0}
IsForApplication what.App = Unit {0}
IsForApplication other = ⊥

abbrev pub IsOfApplication : Input → Type 0
IsOfApplication (Message head) = IsForApplication head.what
IsOfApplication other = ⊥

-- a session that awaits a Logon gets a good one: with a number that is not old, the right names and
-- time, and ResetSeqNumFlag(141) on the very first message of the side alone
pub record LogsOn (s : Session) (head : Head) : Type 0 where
  pub n : ℕ
  pub heart : ℕ
  pub reset : Bool
  pub awaited : (s.link ≡ Wait) ⊎ (s.link ≡ Asked)
  pub number : head.number ≡ Some n
  pub not_old : s.numbers.next_in ≤ n
  pub comp : head.comp ≡ None
  pub time : head.time ≡ None
  pub what : head.what ≡ what.Logon heart reset
  pub fresh : reset ≡ true → is_fresh n s ≡ true

abbrev pub IsGoodLogon : Session → Input → Type 0
IsGoodLogon s (Message head) = LogsOn s head
IsGoodLogon s other = ⊥

-- why a session is Down: it was, or its connection was lost, or it hangs up
abbrev pub IsDownBy : Session → Input → List Act → Type 0
IsDownBy s Closed acts = Unit {0}
IsDownBy s other acts = (s.link ≡ Down) ⊎ Contains acts HangUp

-- a message whose own number counts: any but a SequenceReset that is no gap fill
abbrev pub GoesByNumber : What → Type 0
GoesByNumber (what.Reset to) = ⊥
GoesByNumber (what.FaultyReset tag reason) = ⊥
GoesByNumber other = Unit {0}

-- the input is a ResendRequest from this number on
abbrev pub AsksFrom : What → ℕ → Type 0
AsksFrom (what.ResendRequest begin end) from = begin ≡ from
AsksFrom other from = ⊥

abbrev pub IsRequestFrom : Input → ℕ → Type 0
IsRequestFrom (Message head) from = AsksFrom head.what from
IsRequestFrom other from = ⊥

-- why a message is rejected: a wrong name or time, the NewSeqNo(36) of a SequenceReset, or the
-- fault of another session message
abbrev pub FaultOf : What → ℕ → ℕ → Type 0
FaultOf (what.Faulty tag reason) t r = (tag ≡ t) × (reason ≡ r)
FaultOf other t r = ⊥

abbrev pub IsSequenceReset : What → Type 0
IsSequenceReset (what.GapFill to) = Unit {0}
IsSequenceReset (what.Reset to) = Unit {0}
IsSequenceReset (what.FaultyReset tag reason) = Unit {0}
IsSequenceReset other = ⊥

abbrev pub RejectsFor : Head → ℕ → ℕ → Type 0
RejectsFor head tag reason = ((head.comp ≡ Some tag) × (reason ≡ COMP_ID_PROBLEM))
    ⊎ ((tag ≡ SENDING_TIME) × (head.time ≡ Some reason))
    ⊎ ((tag ≡ NEW_SEQ_NO) × IsSequenceReset head.what)
    ⊎ FaultOf head.what tag reason

abbrev pub IsRejectedFor : Input → ℕ → ℕ → Type 0
IsRejectedFor (Message head) tag reason = RejectsFor head tag reason
IsRejectedFor other tag reason = ⊥
