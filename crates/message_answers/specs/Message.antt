-- Standard: FIX 4.2 and FIX 5.0 SP2, the types of messages of the application.
--
-- What a side says to the gateway, and which types it may send.
use Rattle.std.specs.Prelude.{ℕ, ◌==◌, ◌||◌, Bool, List, codes, Option, Result, if◌then◌else◌}
use Rattle.std.specs.Str.{bytes_eq}
use Rattle.field_groups.specs.declared.fault.SplitFault.{SplitFault}
use Rattle.field_groups.specs.Field.{Field}
use Rattle.message_tables.specs.Tables.{Tag, Message, said_at}
use Rattle.row_values.specs.Amounts.{number_if}
use Rattle.order_meaning.specs.declared.Side.{Side}
use Rattle.order_meaning.specs.declared.Side.TheVariants.{Client, Venue}
use Rattle.order_meaning.specs.declared.fault.Fault.{Fault}
use Rattle.order_meaning.specs.declared.refusal.Refusal.{Refusal}
use Rattle.dict_fix42.specs.Message as requests42
use Rattle.reports_fix42.specs.Message as reports42
use Rattle.reports_fix50.specs.Message as reports50
use Rattle.event_decisions.specs.Body.{Reading, reading_of, first_value}

-- a Reject(3) or a BusinessMessageReject(j)
abbrev pub is_refusal_type : List ℕ → Bool
is_refusal_type msg_type = bytes_eq msg_type (codes "3") || bytes_eq msg_type (codes "j")

-- the client sends requests and refusals of FIX 4.2, and the venue reports and refusals of FIX 5.0
-- SP2; any other type is not supported
abbrev pub said_by : Side → List ℕ → List Field → Option SplitFault → Result Message Fault
said_by Client msg_type fields fault =
    if is_refusal_type msg_type
    then reports42.message42 msg_type fields fault
    else requests42.message42 msg_type fields fault
said_by Venue msg_type fields fault = reports50.message50 msg_type fields fault

abbrev pub said_in : Side → Reading → Result Message Fault
said_in side reading = said_by side (first_value reading.fields) reading.fields reading.fault

-- THE MESSAGE of a side with this body, or its first fault
abbrev pub message_of : Side → List ℕ → Result Message Fault
message_of side body = said_in side (reading_of body)

abbrev pub is_business : Message → Bool
is_business m = m.letter == 106

-- it is a Reject(3) or a BusinessMessageReject(j)
abbrev pub is_refusal : Message → Bool
is_refusal m = m.letter == 51 || m.letter == 106

-- what a refusal says: RefSeqNum(45), RefMsgType(372), BusinessRejectRefID(379), RefTagID(371),
-- SessionRejectReason(373) or BusinessRejectReason(380), Text(58)
abbrev pub refusal_in : Message → Refusal
refusal_in m = record {
  number = number_if m.cells 45;
  msg_type = said_at m.cells (Tag 372);
  id = said_at m.cells (Tag 379);
  tag = number_if m.cells 371;
  reason = number_if m.cells (if is_business m then 380 else 373);
  text = said_at m.cells (Tag 58);
}
