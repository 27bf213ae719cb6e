-- Standard: FIX 4.2 and FIXT 1.1, "Administrative Messages".
-- Own: the order of the fields, and the texts of a Logout; docs/DECISIONS.md, "Heads and Logon".
--
-- What a session says: the type and the fields of each of its messages, behind the standard header.
use Rattle.std.specs.Prelude.{ℕ, ◌==◌, Bool, true, false, List, [], ◌∷◌, ◌++◌, Some, None, codes}
use Rattle.std.specs.Prelude.{length, if◌then◌else◌}
use Rattle.std.specs.declared.option.Option.{Option}
use Rattle.std.specs.Fmt.{decimal}
use Rattle.order_meaning.specs.declared.Side.{Side}
use Rattle.order_meaning.specs.declared.Side.TheVariants.{Client, Venue}
use Rattle.field_groups.specs.Field.{Field, body_of}
use Rattle.session_core.specs.declared.act.Admin.{Admin}
use Rattle.session_core.specs.declared.act.Admin.TheVariants as admin
use Rattle.session_core.specs.declared.act.Why.{Why}
use Rattle.session_core.specs.declared.act.Why.TheVariants as why
use Rattle.session_core.specs.declared.tag.TheConstants.{BEGIN_SEQ_NO, END_SEQ_NO, NEW_SEQ_NO}
use Rattle.session_core.specs.declared.tag.TheConstants.{REF_SEQ_NUM, TEXT, ENCRYPT_METHOD}
use Rattle.session_core.specs.declared.tag.TheConstants.{HEART_BT_INT, TEST_REQ_ID, GAP_FILL_FLAG}
use Rattle.session_core.specs.declared.tag.TheConstants.{RESET_SEQ_NUM_FLAG, REF_TAG_ID}
use Rattle.session_core.specs.declared.tag.TheConstants.{REF_MSG_TYPE, SESSION_REJECT_REASON}
use Rattle.session_core.specs.declared.tag.TheConstants.{DEFAULT_APPL_VER_ID}
use Rattle.session_core.specs.declared.said.Said.{Said}
use Rattle.session_core.specs.Reason.{session_reason, session_text}
use Rattle.session_core.specs.Said.{ref_msg_type}

-- MsgType(35)
abbrev pub type_of : Admin → List ℕ
type_of (admin.Logon reset) = codes "A"
type_of (admin.Logout reason) = codes "5"
type_of (admin.Heartbeat echo) = codes "0"
type_of admin.TestRequest = codes "1"
type_of (admin.ResendRequest from) = codes "2"
type_of (admin.Reject tag reason) = codes "3"

-- a Logon to the client repeats its ResetSeqNumFlag(141); one to the venue names FIX 5.0 SP2
abbrev pub logon_fields : Side → Bool → ℕ → List Field
logon_fields side reset heart =
    (ENCRYPT_METHOD, codes "0") ∷ (HEART_BT_INT, decimal heart) ∷ last side reset
  where
    last : Side → Bool → List Field
    last Client true = (RESET_SEQ_NUM_FLAG, codes "Y") ∷ []
    last Client false = []
    last Venue reset = (DEFAULT_APPL_VER_ID, codes "9") ∷ []

-- why a session ends; the answer to a Logout says nothing
abbrev pub logout_text : Why → List ℕ
logout_text (why.TooLow expected got) =
    codes "MsgSeqNum too low, expecting " ++ decimal expected ++ codes " but received "
    ++ decimal got
logout_text why.NoNumber = codes "MsgSeqNum missing"
logout_text (why.Logon tag) = codes "Logon refused, tag " ++ decimal tag
logout_text why.CompId = codes "CompID problem"
logout_text why.Clock = codes "SendingTime accuracy problem"
logout_text why.Answer = []
logout_text why.End = codes "session ended"

abbrev pub logout_fields : List ℕ → List Field
logout_fields text = if length text == 0 then [] else (TEXT, text) ∷ []

-- a Heartbeat has the TestReqID(112) that it answers
abbrev pub heartbeat_fields : Bool → List ℕ → List Field
heartbeat_fields true echo = (TEST_REQ_ID, echo) ∷ []
heartbeat_fields false echo = []

-- a TestRequest is named by its own number
abbrev pub test_request_fields : ℕ → List Field
test_request_fields number = (TEST_REQ_ID, codes "T" ++ decimal number) ∷ []

-- a ResendRequest asks for all from a number on
abbrev pub resend_request_fields : ℕ → List Field
resend_request_fields from = (BEGIN_SEQ_NO, decimal from) ∷ (END_SEQ_NO, codes "0") ∷ []

abbrev pub text_field : Option (List ℕ) → List Field
text_field None = []
text_field (Some text) = (TEXT, text) ∷ []

abbrev pub reason_field : Option ℕ → List Field
reason_field None = []
reason_field (Some reason) = (SESSION_REJECT_REASON, decimal reason) ∷ []

-- a reason as it is told to a side
abbrev pub reason_fields : Side → ℕ → List Field
reason_fields side reason =
    reason_field (session_reason side reason) ++ text_field (session_text side reason)

-- a Reject names the message by its number and its type, of which 8 bytes are kept, and the field
abbrev pub rejected_fields : ℕ → ℕ → List ℕ → List Field
rejected_fields tag number msg_type =
    (REF_SEQ_NUM, decimal number) ∷ (REF_TAG_ID, decimal tag)
    ∷ (REF_MSG_TYPE, ref_msg_type msg_type) ∷ []

-- The fields of a session's message to this side: HeartBtInt(108) is `heart`, its own number
-- `next_out`. It may answer a message of this number and type, with this TestReqID(112).
abbrev pub fields_of : Side → Admin → ℕ → ℕ → ℕ → List ℕ → List ℕ → List Field
fields_of side (admin.Logon reset) heart next_out number msg_type echo =
    logon_fields side reset heart
fields_of side (admin.Logout reason) heart next_out number msg_type echo =
    logout_fields (logout_text reason)
fields_of side (admin.Heartbeat has) heart next_out number msg_type echo = heartbeat_fields has echo
fields_of side admin.TestRequest heart next_out number msg_type echo = test_request_fields next_out
fields_of side (admin.ResendRequest from) heart next_out number msg_type echo =
    resend_request_fields from
fields_of side (admin.Reject tag reason) heart next_out number msg_type echo =
    rejected_fields tag number msg_type ++ reason_fields side reason

-- every message of a session but a Reject is passed over by a gap fill where messages are sent
-- again
abbrev pub is_admin : Admin → Bool
is_admin (admin.Reject tag reason) = false
is_admin other = true

abbrev pub said : Side → Admin → ℕ → ℕ → ℕ → List ℕ → List ℕ → Said
said side a heart next_out number msg_type echo = record {
  msg_type = type_of a;
  content = body_of (fields_of side a heart next_out number msg_type echo);
  admin = is_admin a;
}

-- the fields of a SequenceReset in gap fill mode, up to a number
abbrev pub gap_fill_fields : ℕ → List Field
gap_fill_fields to = (GAP_FILL_FLAG, codes "Y") ∷ (NEW_SEQ_NO, decimal to) ∷ []
