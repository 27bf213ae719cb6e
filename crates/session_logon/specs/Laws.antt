-- Standard: FIX 4.2 and FIXT 1.1, "Standard message header": what one side writes the other reads.
use Rattle.std.specs.Prelude.{◌≡◌, ℕ, ◌*◌, ◌≤◌, Bool, true, false, List, [], ◌∷◌, ◌++◌, codes, Some}
use Rattle.std.specs.Prelude.{None}
use Rattle.std.specs.declared.option.Option.{Option}
use Rattle.std.specs.Fmt.{decimal}
use Rattle.order_meaning.specs.declared.Side.{Side}
use Rattle.order_meaning.specs.declared.Side.TheVariants.{Client, Venue}
use Rattle.order_meaning.specs.declared.names.Names.{Names}
use Rattle.typed_fields.specs.declared.stamp.Stamp.{Stamp}
use Rattle.typed_fields.specs.Stamp.{stamp_text, IsStamp}
use Rattle.field_groups.specs.Field.{Field}
use Rattle.session_core.specs.Numbers.{IsMsgSeqNum}
use Rattle.session_core.specs.declared.tag.TheConstants.{MSG_TYPE, MSG_SEQ_NUM, POSS_DUP_FLAG}
use Rattle.session_core.specs.declared.tag.TheConstants.{SENDER_COMP_ID, SENDING_TIME}
use Rattle.session_core.specs.declared.tag.TheConstants.{TARGET_COMP_ID, POSS_RESEND}
use Rattle.session_core.specs.declared.tag.TheConstants.{ORIG_SENDING_TIME}
use Rattle.session_core.specs.declared.act.Admin.{Admin}
use Rattle.session_core.specs.declared.act.Admin.TheVariants as admin
use Rattle.session_core.specs.declared.head.Head.{Head}
use Rattle.session_core.specs.declared.head.What.{What}
use Rattle.session_core.specs.declared.head.What.TheVariants as what
use Rattle.session_logon.specs.declared.head.TheConstants.{SECOND}
use Rattle.session_logon.specs.declared.logon.TheConstants.{MAX_HEART}
use Rattle.session_logon.specs.Head.{peer, our, distance, head_of}

-- what the header of a message says beside its type and the names: MsgSeqNum(34), PossDupFlag(43),
-- PossResend(97), SendingTime(52) and, of a message that is sent again, OrigSendingTime(122)
pub record Heading : Type 0 where
  pub number : ℕ
  pub dup : Bool
  pub resend : Bool
  pub sent : Stamp
  pub first : Option Stamp

-- a flag stands where it is `Y`, and a moment where there is one
abbrev pub flag_field : ℕ → Bool → List Field
flag_field tag true = (tag, codes "Y") ∷ []
flag_field tag false = []

abbrev pub stamp_field : ℕ → Option Stamp → List Field
stamp_field tag None = []
stamp_field tag (Some stamp) = (tag, stamp_text stamp) ∷ []

-- the header of a message that the gateway writes to a side
abbrev pub header_fields : Side → Names → List ℕ → Heading → List Field
header_fields side names msg_type h =
    (MSG_TYPE, msg_type) ∷ (SENDER_COMP_ID, our side names) ∷ (TARGET_COMP_ID, peer side names)
    ∷ (MSG_SEQ_NUM, decimal h.number) ∷ flag_field POSS_DUP_FLAG h.dup
    ++ flag_field POSS_RESEND h.resend
    ++ (SENDING_TIME, stamp_text h.sent) ∷ stamp_field ORIG_SENDING_TIME h.first

-- the names as the other side has them
abbrev pub turned : Names → Names
turned names = record {
  client_our = names.client_peer;
  client_peer = names.client_our;
  venue_our = names.venue_peer;
  venue_peer = names.venue_our;
}

-- the message has a number, and its time is within the window of the moment at which it is read
pub record IsTimely (h : Heading) (window now : ℕ) : Type 0 where
  pub number : IsMsgSeqNum h.number
  pub stamp : IsStamp h.sent
  pub near : distance now h.sent ≤ SECOND * window

-- what a session that says this means
abbrev pub meant : Side → Admin → ℕ → What
meant Client (admin.Logon reset) heart = what.Logon heart reset
meant Venue (admin.Logon reset) heart = what.Logon heart false
meant side (admin.Logout reason) heart = what.Logout
meant side (admin.Heartbeat echo) heart = what.Heartbeat
meant side admin.TestRequest heart = what.TestRequest
meant side (admin.ResendRequest from) heart = what.ResendRequest from 0
meant side (admin.Reject tag reason) heart = what.Reject

-- the numbers of what is said are within their bounds
abbrev pub IsSayable : Admin → ℕ → ℕ → Type 0
IsSayable (admin.Logon reset) heart next_out = heart ≤ MAX_HEART
IsSayable admin.TestRequest heart next_out = IsMsgSeqNum next_out
IsSayable (admin.ResendRequest from) heart next_out = IsMsgSeqNum from
IsSayable other heart next_out = Unit {0}

-- the head of a message with this heading, by which all is well but for what it is
abbrev pub heads : Heading → What → Head
heads h w = record { number = Some h.number; dup = h.dup; comp = None; time = None; what = w }

-- what the gateway writes to a side is read there as what was meant
abbrev pub IsReadAs : Side → List ℕ → List Field → What → Type 0
IsReadAs side msg_type content w =
    (names : Names) (window : ℕ) (h : Heading) (now : ℕ) → IsTimely h window now
    → head_of side (turned names) window msg_type (header_fields side names msg_type h ++ content)
    now ≡ heads h w
