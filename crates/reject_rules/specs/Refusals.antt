-- Standard: FIX 4.2, Reject (session-level) and Business Message Reject.
-- The texts are own: docs/DECISIONS.md, "Refusals".
use Rattle.std.specs.Prelude.{ℕ, List, ◌++◌, codes, Some, None}
use Rattle.std.specs.declared.option.Option.{Option}
use Rattle.std.specs.Fmt.{decimal}
use Rattle.order_meaning.specs.declared.Side.{Side}
use Rattle.order_meaning.specs.declared.fault.Fault.{Fault}
use Rattle.order_meaning.specs.declared.fault.Fault.TheVariants.{Session, NoCounterpart}
use Rattle.order_meaning.specs.declared.fault.Fault.TheVariants.{NotSupported, NoMemory}
use Rattle.session_core.specs.declared.said.Said.{Said}
use Rattle.session_core.specs.declared.tag.TheConstants.{MSG_TYPE}
use Rattle.session_core.specs.Reason.{session_reason, session_text}
use Rattle.session_core.specs.Said.{ref_msg_type}
use Rattle.reject_rules.specs.declared.reasons.TheConstants.{OTHER, UNSUPPORTED_MESSAGE_TYPE}
use Rattle.reject_rules.specs.declared.reasons.TheConstants.{APPLICATION_NOT_AVAILABLE}
use Rattle.reject_rules.specs.Content.{reject, business_reject}

-- the Reject to a side of its message of this number and type, for this tag and reason
abbrev pub session_refusal : Side → ℕ → List ℕ → Option ℕ → ℕ → Said
session_refusal side number msg_type tag reason = reject (record {
  number = Some number;
  msg_type = Some (ref_msg_type msg_type);
  id = None;
  tag = tag;
  reason = session_reason side reason;
  text = session_text side reason;
})

-- the BusinessMessageReject of a message of this number and type, for this reason, with this text
abbrev pub business_refusal : ℕ → List ℕ → ℕ → List ℕ → Said
business_refusal number msg_type reason text = business_reject (record {
  number = Some number;
  msg_type = Some (ref_msg_type msg_type);
  id = None;
  tag = None;
  reason = Some reason;
  text = Some text;
})

unfoldable pub no_counterpart : ℕ → List ℕ
no_counterpart tag = codes "tag " ++ decimal tag ++ codes " has no counterpart"

-- what is said to a side of its message with a fault; nothing where memory was wanting to read it
abbrev pub refusal_of : Side → ℕ → List ℕ → Fault → Option Said
refusal_of side number msg_type (Session tag reason) =
    Some (session_refusal side number msg_type tag reason)
refusal_of side number msg_type (NoCounterpart tag) =
    Some (business_refusal number msg_type OTHER (no_counterpart tag))
refusal_of side number msg_type NotSupported =
    Some (business_refusal number msg_type UNSUPPORTED_MESSAGE_TYPE (no_counterpart MSG_TYPE))
refusal_of side number msg_type NoMemory = None

-- what is said of a request whose ClOrdID(11) was used before
abbrev pub used_refusal : ℕ → List ℕ → Said
used_refusal number msg_type =
    business_refusal number msg_type OTHER (codes "tag 11 is already used")

-- what is said of a request while the venue's session is not active
abbrev pub away_refusal : ℕ → List ℕ → Said
away_refusal number msg_type =
    business_refusal number msg_type APPLICATION_NOT_AVAILABLE (codes "venue is not connected")
