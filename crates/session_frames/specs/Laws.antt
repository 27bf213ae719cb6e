-- Own: what a frame that is sent shows to whoever reads it.
use Rattle.std.specs.Prelude.{◌≡◌, ℕ, ◌+◌, ◌≤◌, Bool, false, List, ◌++◌, length, None}
use Rattle.std.specs.List.{list_any}
use Rattle.frame_grammar.specs.Frame.{IsFrame}
use Rattle.field_groups.specs.Field.{Field, AreFields, is_soh, body_of}
use Rattle.order_meaning.specs.declared.Side.{Side}
use Rattle.order_meaning.specs.declared.names.Names.{Names}
use Rattle.order_meaning.specs.declared.names.TheConstants.{MAX_NAME}
use Rattle.session_core.specs.declared.numbers.TheConstants.{MAX_MSG_SEQ_NUM}
use Rattle.session_logon.specs.Head.{our, peer}
use Rattle.session_logon.specs.Laws.{header_fields}
use Rattle.pair_entries.specs.declared.TheConstants.{MAX_TYPE, MAX_CONTENT}
use Rattle.event_decisions.specs.Body.{reading_of}
use Rattle.session_frames.specs.Frames.{kind_of, heading, body_out, frame_out}

-- a name has 1 to 35 bytes, and none ends a field
pub record IsShown (name : List ℕ) : Type 0 where
  pub short : length name ≤ MAX_NAME
  pub plain : list_any is_soh name ≡ false

-- a message within its bounds, of which the type has no SOH and the content is fields: at most 256
-- with those of the header
pub record IsSendable (names : Names) (side : Side) (number : ℕ) (msg_type : List ℕ)
    (fields : List Field) : Type 0 where
  pub our : IsShown (our side names)
  pub peer : IsShown (peer side names)
  pub numbered : number ≤ MAX_MSG_SEQ_NUM
  pub typed : 1 ≤ length msg_type
  pub short : length msg_type ≤ MAX_TYPE
  pub plain : list_any is_soh msg_type ≡ false
  pub good : AreFields None fields
  pub few : length fields ≤ 248
  pub bounded : length (body_of fields) ≤ MAX_CONTENT

-- What is sent is a frame of its side, and it is read as the fields of the header and of the
-- content: the header has MsgType(35), both names, MsgSeqNum(34), PossDupFlag(43) and
-- PossResend(97) where they are set, SendingTime(52) and, of what is sent again,
-- OrigSendingTime(122).
pub record IsReadBack (names : Names) (side : Side) (number : ℕ) (msg_type : List ℕ)
    (fields : List Field) (resend : Bool) (first now : ℕ) (again : Bool) : Type 0 where
  pub frame : IsFrame (kind_of side)
      (body_out side names (heading number resend first now again) msg_type (body_of fields))
      (frame_out names side number msg_type (body_of fields) resend first now again)
  pub read : reading_of
      (body_out side names (heading number resend first now again) msg_type (body_of fields))
      ≡ record {
        fields =
            header_fields side names msg_type (heading number resend first now again) ++ fields;
        fault = None;
      }

abbrev pub FramesAreRead : Type 0
FramesAreRead =
    (names : Names) (side : Side) (number : ℕ) (msg_type : List ℕ) (fields : List Field)
    (resend : Bool) (first now : ℕ) (again : Bool)
    → IsSendable names side number msg_type fields
    → IsReadBack names side number msg_type fields resend first now again
