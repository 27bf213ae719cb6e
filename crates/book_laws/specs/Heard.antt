-- Own: what is heard in a message by the one who takes it.
use Rattle.std.specs.Prelude.{◌≡◌, ℕ, Bool, true, false, List, [], ◌∷◌, codes, Option, Some, None}
use Rattle.std.specs.Prelude.{Result, is_some, if◌then◌else◌}
use Rattle.std.specs.List.{list_any}
use Rattle.std.specs.Option.{option_map}
use Rattle.std.specs.Result.{result_ok}
use Rattle.std.specs.Str.{bytes_eq}
use Rattle.field_groups.specs.Field.{Field}
use Rattle.field_groups.specs.HeadValues.{number_in}
use Rattle.message_tables.specs.Tables.{Tag, Message, ◌>>=◌, is_one_of, said_at, text_in, value_at}
use Rattle.order_meaning.specs.declared.Side.{Side}
use Rattle.order_meaning.specs.declared.Side.TheVariants.{Client, Venue}
use Rattle.order_meaning.specs.declared.fault.Fault.{Fault}
use Rattle.order_meaning.specs.Book.{Book}
use Rattle.session_core.specs.declared.tag.TheConstants.{REF_SEQ_NUM}
use Rattle.pair_entries.specs.declared.entry.Out.{Out}
use Rattle.row_values.specs.Kinds.{resend_of}
use Rattle.dict_fix42.specs.Message as requests42
use Rattle.dict_fix42.specs.Sense.{request42}
use Rattle.dict_fix50.specs.Message as requests50
use Rattle.dict_fix50.specs.Sense.{request50}
use Rattle.reports_fix42.specs.Message as reports42
use Rattle.reports_fix42.specs.Step.{step42}
use Rattle.reports_fix50.specs.Message as reports50
use Rattle.reports_fix50.specs.Step.{step50}
use Rattle.event_decisions.specs.Body.{fields_of, type_of}
use Rattle.message_answers.specs.Chains.{joining}
use Rattle.message_answers.specs.Message.{is_refusal_type, message_of}

-- ---- sorts

-- What a message is: a request or a report, by its type; a Reject(3) or a BusinessMessageReject(j)
-- that is read, or one that is at fault; or any other message.
pub data Sort : Type 0 where
  Request : Sort
  Report : Sort
  Refusal : Sort
  FaultyRefusal : Sort
  Plain : Sort

-- a Reject(3) or a BusinessMessageReject(j)
abbrev pub is_reject : Sort → Bool
is_reject Refusal = true
is_reject FaultyRefusal = true
is_reject other = false

-- New Order (D), Cancel (F), Cancel/Replace (G), Status Request (H)
abbrev pub request_types : List (List ℕ)
request_types = codes "D" ∷ codes "F" ∷ codes "G" ∷ codes "H" ∷ []

-- Execution Report (8), Order Cancel Reject (9)
abbrev pub report_types : List (List ℕ)
report_types = codes "8" ∷ codes "9" ∷ []

abbrev pub is_among : List (List ℕ) → List ℕ → Bool
is_among types msg_type = list_any (bytes_eq msg_type) types

abbrev pub refusal_sort : Bool → Sort
refusal_sort true = Refusal
refusal_sort false = FaultyRefusal

-- the sort of a type, where its message is read or is at fault
abbrev pub sort_of : List ℕ → Bool → Sort
sort_of msg_type is_read =
    if is_refusal_type msg_type then refusal_sort is_read else
    (if is_among request_types msg_type then Request else
    (if is_among report_types msg_type then Report else Plain))

-- ---- what is heard

pub record Heard : Type 0 where
  -- MsgSeqNum(34)
  pub number : ℕ
  -- whether it repeats what was sent before, PossResend(97)
  pub resend : Bool
  pub sort : Sort
  -- of a refusal, the number of the message that it refuses, RefSeqNum(45)
  pub number_named : Option ℕ
  -- of a refusal, the id of what it refuses, BusinessRejectRefID(379)
  pub id_named : Option (List ℕ)
  -- of a New Order (D), a Cancel (F) or a Cancel/Replace (G), ClOrdID(11)
  pub cl_ord_id : Option (List ℕ)
  -- the message that it is by the tables of its version
  pub said : Option Message

-- the number that the first RefSeqNum(45) says, by its bytes
abbrev pub number_named_in : List ℕ → List Field → Option ℕ
number_named_in msg_type fields =
    if is_refusal_type msg_type then value_at REF_SEQ_NUM fields >>= number_in else None

abbrev pub id_named_in : Message → Option (List ℕ)
id_named_in m = said_at m.cells (Tag 379)

abbrev pub cl_ord_id_in : Message → Option (List ℕ)
cl_ord_id_in m = if is_one_of joining m.letter then Some (text_in m.cells 11) else None

-- a message with this number, PossResend(97), type and these fields, which says this by the tables
abbrev pub heard_by : ℕ → (resend : Bool) → (msg_type : List ℕ) → List Field → Option Message
    → Heard
heard_by number resend msg_type fields said = record {
  number = number;
  resend = resend;
  sort = sort_of msg_type (is_some said);
  number_named = number_named_in msg_type fields;
  id_named = said >>= id_named_in;
  cl_ord_id = said >>= cl_ord_id_in;
  said = said;
}

-- WHAT IS HEARD IN A BODY that was taken from a side, with its number
abbrev pub heard_body : Side → ℕ → List ℕ → Heard
heard_body side number body =
    heard_by number (resend_of (fields_of body)) (type_of body) (fields_of body)
    (result_ok (message_of side body))

-- the message that a side reads: the client by the tables of FIX 4.2, the venue by those of FIX 5.0
-- SP2
abbrev pub message_to : Side → (msg_type : List ℕ) → List Field → Result Message Fault
message_to Client msg_type fields =
    if is_among request_types msg_type
    then requests42.message42 msg_type fields None
    else reports42.message42 msg_type fields None
message_to Venue msg_type fields =
    if is_among request_types msg_type
    then requests50.message50 msg_type fields None
    else reports50.message50 msg_type fields None

-- a content has no PossResend(97), which stands in the header
abbrev pub with_resend : Bool → Message → Message
with_resend resend m = record m { resend = resend }

abbrev pub said_out : Out → Option Message
said_out out = option_map (with_resend out.resend)
    (result_ok (message_to out.side out.msg_type (fields_of out.content)))

-- WHAT IS HEARD IN A MESSAGE that is given out, by the side to which it goes
abbrev pub heard_out : Out → Heard
heard_out out =
    heard_by out.number out.resend out.msg_type (fields_of out.content) (said_out out)

-- ---- what one carries of the other

-- a message that is not read leaves a book
abbrev pub book_after : (Book → Message → Book) → Book → Option Message → Book
book_after step book None = book
book_after step book (Some m) = step book m

-- A message of a side and one of the other version carry the same: a request means the same order,
-- and a report changes each book alike.
abbrev pub Carries : Side → Heard → Heard → Type 0
Carries Client m out = (m.said >>= request42) ≡ (out.said >>= request50)
Carries Venue m out =
    (book : Book) → book_after step50 book m.said ≡ book_after step42 book out.said
