-- Standard: FIX 4.2 and FIXT 1.1, "Standard message header" and "Administrative Messages".
-- Own: numbers of nine digits, a window of time; where a tag stands twice, the first counts.
--
-- What a session has to know of a message with these fields: its head. It is judged field by field.
use Rattle.std.specs.Prelude.{ℕ, ◌*◌, Bool, true, false, List, codes, nat_le, Some, None, Ok, Err}
use Rattle.std.specs.Prelude.{pos, ◌-ℤ◌, unsigned_abs, if◌then◌else◌}
use Rattle.std.specs.declared.option.Option.{Option}
use Rattle.std.specs.declared.result.Result.{Result}
use Rattle.std.specs.Result.{result_ok}
use Rattle.std.specs.Str.{bytes_eq}
use Rattle.order_meaning.specs.declared.Side.{Side}
use Rattle.order_meaning.specs.declared.Side.TheVariants.{Client, Venue}
use Rattle.order_meaning.specs.declared.names.Names.{Names}
use Rattle.typed_fields.specs.declared.stamp.Stamp.{Stamp}
use Rattle.typed_fields.specs.declared.fault.FieldFault.{FieldFault}
use Rattle.typed_fields.specs.Stamp.{read_fine, read_stamp, stamp_millis}
use Rattle.field_groups.specs.Field.{Field}
use Rattle.session_core.specs.declared.numbers.TheConstants.{MAX_MSG_SEQ_NUM, ALL_USED}
use Rattle.session_core.specs.declared.reason.TheConstants.{SENDING_TIME_ACCURACY_PROBLEM}
use Rattle.session_core.specs.declared.tag.TheConstants.{BEGIN_SEQ_NO, END_SEQ_NO, MSG_SEQ_NUM}
use Rattle.session_core.specs.declared.tag.TheConstants.{NEW_SEQ_NO, POSS_DUP_FLAG, SENDER_COMP_ID}
use Rattle.session_core.specs.declared.tag.TheConstants.{SENDING_TIME, TARGET_COMP_ID, TEST_REQ_ID}
use Rattle.session_core.specs.declared.tag.TheConstants.{GAP_FILL_FLAG}
use Rattle.session_core.specs.declared.head.Head.{Head}
use Rattle.session_core.specs.declared.head.What.{What}
use Rattle.session_core.specs.declared.head.What.TheVariants as what
use Rattle.session_logon.specs.declared.head.TheConstants.{SECOND}
use Rattle.session_logon.specs.declared.logon.LogonFault.{LogonFault}
use Rattle.session_logon.specs.declared.logon.LogonFault.TheVariants.{Tag}
use Rattle.message_tables.specs.Tables.{value_at}
use Rattle.session_logon.specs.Reasons.{required, read_between, read_zero_or_from, text_fault}
use Rattle.session_logon.specs.Logon.{is_text, is_yes, logon_of}

-- ---- the header

-- MsgSeqNum(34): a number from 1 to 999,999,999, or none
abbrev pub number_in : List Field → Option ℕ
number_in fields =
    result_ok (required (read_between 1 MAX_MSG_SEQ_NUM) (value_at MSG_SEQ_NUM fields))

-- who speaks to the gateway on this side, and how it is called there
abbrev pub peer : Side → Names → List ℕ
peer Client names = names.client_peer
peer Venue names = names.venue_peer

abbrev pub our : Side → Names → List ℕ
our Client names = names.client_our
our Venue names = names.venue_our

-- the first of SenderCompID(49) and TargetCompID(56), in this order, that is missing or not the
-- name
abbrev pub wrong_of : Side → Names → Option (List ℕ) → Option (List ℕ) → Option ℕ
wrong_of side names sender target =
    if is_text (peer side names) sender then
    (if is_text (our side names) target then None else Some TARGET_COMP_ID) else Some SENDER_COMP_ID

abbrev pub wrong_name : Side → Names → List Field → Option ℕ
wrong_name side names fields =
    wrong_of side names (value_at SENDER_COMP_ID fields) (value_at TARGET_COMP_ID fields)

-- the reading of a moment: the venue's may be in the fine form
abbrev pub read_moment : Side → List ℕ → Result Stamp FieldFault
read_moment Client bytes = read_stamp bytes
read_moment Venue bytes = read_fine bytes

-- how far a stamp is from a moment, in milliseconds
abbrev pub distance : ℕ → Stamp → ℕ
distance now stamp = unsigned_abs (pos now -ℤ stamp_millis stamp)

-- SendingTime(52): why it is wrong. It may be off by the window, in seconds, to both sides of now.
abbrev pub time_fault : ℕ → ℕ → Result Stamp ℕ → Option ℕ
time_fault window now (Ok stamp) =
    if nat_le (distance now stamp) (SECOND * window) then None else Some
    SENDING_TIME_ACCURACY_PROBLEM
time_fault window now (Err reason) = Some reason

abbrev pub wrong_time : Side → ℕ → ℕ → List Field → Option ℕ
wrong_time side window now fields =
    time_fault window now (required (read_moment side) (value_at SENDING_TIME fields))

-- ---- the kinds of messages, with their own fields

abbrev pub logon_kind : Result (ℕ × Bool) LogonFault → What
logon_kind (Ok said) = what.Logon said.0 said.1
logon_kind (Err (Tag tag)) = what.BadLogon tag

-- TestRequest: TestReqID(112), a text
abbrev pub test_request_kind : Option ℕ → What
test_request_kind None = what.TestRequest
test_request_kind (Some reason) = what.Faulty TEST_REQ_ID reason

-- ResendRequest: BeginSeqNo(7), and then EndSeqNo(16), which is 0 or not below it
abbrev pub end_kind : ℕ → Result ℕ ℕ → What
end_kind from (Ok to) = what.ResendRequest from to
end_kind from (Err reason) = what.Faulty END_SEQ_NO reason

abbrev pub resend_request_kind : Result ℕ ℕ → List Field → What
resend_request_kind (Ok from) fields =
    end_kind from (required (read_zero_or_from from) (value_at END_SEQ_NO fields))
resend_request_kind (Err reason) fields = what.Faulty BEGIN_SEQ_NO reason

-- SequenceReset: NewSeqNo(36), in gap fill mode where GapFillFlag(123) is `Y`, and else in reset
-- mode
abbrev pub sequence_reset_kind : Bool → Result ℕ ℕ → What
sequence_reset_kind true (Ok to) = what.GapFill to
sequence_reset_kind true (Err reason) = what.Faulty NEW_SEQ_NO reason
sequence_reset_kind false (Ok to) = what.Reset to
sequence_reset_kind false (Err reason) = what.FaultyReset NEW_SEQ_NO reason

-- the kind of a message, by its MsgType(35)
abbrev pub kind_of : Side → List ℕ → List Field → What
kind_of side msg_type fields =
    if bytes_eq msg_type (codes "A") then logon_kind (logon_of side fields)
    else (if bytes_eq msg_type (codes "0") then what.Heartbeat
    else (if bytes_eq msg_type (codes "1") then
    test_request_kind (text_fault (value_at TEST_REQ_ID fields))
    else (if bytes_eq msg_type (codes "2") then
    resend_request_kind
    (required (read_between 1 MAX_MSG_SEQ_NUM) (value_at BEGIN_SEQ_NO fields)) fields
    else (if bytes_eq msg_type (codes "3") then what.Reject
    else (if bytes_eq msg_type (codes "4") then
    sequence_reset_kind (is_yes (value_at GAP_FILL_FLAG fields))
    (required (read_between 1 ALL_USED) (value_at NEW_SEQ_NO fields))
    else (if bytes_eq msg_type (codes "5") then what.Logout else what.App))))))

-- ---- the head of a message that came from this side at this moment
abbrev pub head_of : Side → Names → ℕ → List ℕ → List Field → ℕ → Head
head_of side names window msg_type fields now = record {
  number = number_in fields;
  dup = is_yes (value_at POSS_DUP_FLAG fields);
  comp = wrong_name side names fields;
  time = wrong_time side window now fields;
  what = kind_of side msg_type fields;
}
