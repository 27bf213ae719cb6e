-- Standard: FIX 4.2, Reject(3) and Business Message Reject(j). The order of the fields is own.
use Rattle.std.specs.Prelude.{ℕ, false, List, [], ◌∷◌, ◌++◌, codes, Some, None}
use Rattle.std.specs.declared.option.Option.{Option}
use Rattle.std.specs.Option.{option_map}
use Rattle.std.specs.Fmt.{decimal}
use Rattle.field_groups.specs.Field.{Field, body_of}
use Rattle.order_meaning.specs.declared.refusal.Refusal.{Refusal}
use Rattle.session_core.specs.declared.said.Said.{Said}
use Rattle.session_core.specs.declared.tag.TheConstants.{REF_SEQ_NUM, REF_TAG_ID, REF_MSG_TYPE}
use Rattle.session_core.specs.declared.tag.TheConstants.{SESSION_REJECT_REASON, TEXT}
use Rattle.reject_rules.specs.declared.tag.TheConstants.{BUSINESS_REJECT_REF_ID}
use Rattle.reject_rules.specs.declared.tag.TheConstants.{BUSINESS_REJECT_REASON}

-- the field of a tag, where it has a value
abbrev pub field_if : ℕ → Option (List ℕ) → List Field
field_if tag None = []
field_if tag (Some value) = (tag, value) ∷ []

-- the field of a tag, where it has a number
abbrev pub number_if : ℕ → Option ℕ → List Field
number_if tag number = field_if tag (option_map decimal number)

abbrev pub reject_fields : Refusal → List Field
reject_fields r =
    number_if REF_SEQ_NUM r.number ++ number_if REF_TAG_ID r.tag ++ field_if REF_MSG_TYPE r.msg_type
    ++ number_if SESSION_REJECT_REASON r.reason ++ field_if TEXT r.text

abbrev pub business_fields : Refusal → List Field
business_fields r =
    number_if REF_SEQ_NUM r.number ++ field_if REF_MSG_TYPE r.msg_type
    ++ field_if BUSINESS_REJECT_REF_ID r.id ++ number_if BUSINESS_REJECT_REASON r.reason
    ++ field_if TEXT r.text

-- the Reject(3) of a refusal; like a message of the application it is repeated where messages are
-- resent, which is own
unfoldable pub reject : Refusal → Said
reject r = record { msg_type = codes "3"; content = body_of (reject_fields r); admin = false }

-- the BusinessMessageReject(j) of a refusal
unfoldable pub business_reject : Refusal → Said
business_reject r =
    record { msg_type = codes "j"; content = body_of (business_fields r); admin = false }
