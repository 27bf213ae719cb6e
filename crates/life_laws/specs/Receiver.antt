-- Standard: FIX 4.2 and FIXT 1.1, "Standard message header", "Sequence Reset" and "Administrative
-- Messages".
-- Own: of a tag that stands twice the first counts; docs/DECISIONS.md, "A life".
--
-- How a receiver reads the body of a frame.
use Rattle.std.specs.Prelude.{◌≡◌, ℕ, ◌≤◌, ◌==◌, Bool, false, not, if◌then◌else◌, List, []}
use Rattle.std.specs.Prelude.{◌∷◌, filter, codes, unwrap_or, Some}
use Rattle.std.specs.List.{list_any}
use Rattle.std.specs.Str.{bytes_eq}
use Rattle.order_meaning.specs.declared.Side.{Side}
use Rattle.order_meaning.specs.declared.names.Names.{Names}
use Rattle.field_groups.specs.Field.{Field, body_of}
use Rattle.message_tables.specs.Tables.{value_at}
use Rattle.session_core.specs.declared.numbers.TheConstants.{ALL_USED}
use Rattle.session_core.specs.declared.tag.TheConstants.{POSS_RESEND, GAP_FILL_FLAG, NEW_SEQ_NO}
use Rattle.session_core.specs.declared.head.What.{What}
use Rattle.session_core.specs.declared.head.What.TheVariants as what
use Rattle.session_logon.specs.Head.{number_in, sequence_reset_kind}
use Rattle.session_logon.specs.Logon.{is_yes}
use Rattle.session_logon.specs.Reasons.{required, read_between}
use Rattle.pair_entries.specs.declared.entry.Out.{Out}
use Rattle.pair_entries.specs.declared.entry.Entry.{Entry}
use Rattle.event_decisions.specs.Body.{fields_of, type_of}
use Rattle.session_frames.specs.Laws.{IsSendable}
use Rattle.life_laws.specs.Forms.{Placed, placed}
use Rattle.life_laws.specs.Taken.{Message, Read, GapFill, Reset, Other}

-- the tags of a header that is sent
abbrev pub header_tags : List ℕ
header_tags = 35 ∷ 49 ∷ 56 ∷ 34 ∷ 43 ∷ 97 ∷ 52 ∷ 122 ∷ []

abbrev pub is_in_header : Field → Bool
is_in_header f = list_any (λ tag. tag == f.0) header_tags

abbrev pub behind_header : List Field → List Field
behind_header fields = filter (λ f. not (is_in_header f)) fields

-- the messages of a session but the Reject, which is sent again as the application's are
abbrev pub is_administrative : List ℕ → Bool
is_administrative msg_type = list_any (bytes_eq msg_type)
    (codes "0" ∷ codes "1" ∷ codes "2" ∷ codes "4" ∷ codes "5" ∷ codes "A" ∷ [])

abbrev pub read_reset : ℕ → What → Read
read_reset number (what.GapFill to) = GapFill number to
read_reset number other = Reset

abbrev pub message_by : ℕ → (msg_type : List ℕ) → List Field → Message
message_by number msg_type fields = record {
  number = number;
  msg_type = msg_type;
  resend = is_yes (value_at POSS_RESEND fields);
  fields = behind_header fields;
}

-- a frame with this MsgSeqNum(34), MsgType(35) and these fields
abbrev pub read_as : ℕ → (msg_type : List ℕ) → List Field → Read
read_as number msg_type fields =
    if bytes_eq msg_type (codes "4") then
    read_reset number (sequence_reset_kind (is_yes (value_at GAP_FILL_FLAG fields))
    (required (read_between 1 ALL_USED) (value_at NEW_SEQ_NO fields)))
    else Other (message_by number msg_type fields) (is_administrative msg_type)

-- A BODY AS IT IS READ; one without a number has the number 0
abbrev pub read_body : List ℕ → Read
read_body body = read_as (unwrap_or (number_in (fields_of body)) 0) (type_of body) (fields_of body)

-- an out as its receiver sees it
abbrev pub message_of_out : Out → Message
message_of_out out = record {
  number = out.number;
  msg_type = out.msg_type;
  resend = out.resend;
  fields = behind_header (fields_of out.content);
}

-- An out that can be sent, and whose content says nothing that its header says.
pub record IsSent (names : Names) (side : Side) (out : Out) : Type 0 where
  pub fields : List Field
  pub content : out.content ≡ body_of fields
  pub sendable : IsSendable names side out.number out.msg_type fields
  pub number : 1 ≤ out.number
  pub no_header : list_any is_in_header fields ≡ false
  pub no_reset : bytes_eq out.msg_type (codes "4") ≡ false
  pub admin : out.admin ≡ is_administrative out.msg_type

-- each out of a journal to a side is such a one
abbrev pub AreSent : Names → Side → List Entry → Type 0
AreSent names side entries =
    (n : ℕ) (p : Placed) → placed side n entries ≡ Some p → IsSent names side p.out
