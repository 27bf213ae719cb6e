-- Standard: MsgType (35) of FIX 4.2 and FIX 5.0 SP2: 8 Execution Report, 9 Order Cancel Reject,
-- 3 Reject, j Business Message Reject. Own: no other type is a report or a refusal.
use Rattle.std.specs.Prelude.{ℕ, Bool, ◌||◌, List, codes, Option, Result, Err, if◌then◌else◌}
use Rattle.std.specs.Str.{bytes_eq}
use Rattle.field_groups.specs.declared.fault.SplitFault.{SplitFault}
use Rattle.field_groups.specs.Field.{Field}
use Rattle.message_tables.specs.Tables.{Message}
use Rattle.order_meaning.specs.declared.Side.{Side}
use Rattle.order_meaning.specs.declared.Side.TheVariants.{Client, Venue}
use Rattle.order_meaning.specs.declared.fault.Fault.{Fault}
use Rattle.order_meaning.specs.declared.fault.Fault.TheVariants.{NotSupported}
use Rattle.reports_fix42.specs.Message.{message42}
use Rattle.reports_fix50.specs.Message.{message50}

abbrev pub is_report : List ℕ → Bool
is_report msg_type = bytes_eq msg_type (codes "8") || bytes_eq msg_type (codes "9")

abbrev pub is_refusal : List ℕ → Bool
is_refusal msg_type = bytes_eq msg_type (codes "3") || bytes_eq msg_type (codes "j")

-- THE REPORT of FIX 5.0 SP2 that a MsgType and the fields of a body are, with the fault that
-- stopped them, if any; or the first fault
unfoldable pub report_message : List ℕ → List Field → Option SplitFault → Result Message Fault
report_message msg_type fields fault =
    if is_report msg_type then message50 msg_type fields fault else Err NotSupported

-- a message of the version of a side
abbrev pub message_of : Side → List ℕ → List Field → Option SplitFault → Result Message Fault
message_of Client msg_type fields fault = message42 msg_type fields fault
message_of Venue msg_type fields fault = message50 msg_type fields fault

-- THE REFUSAL of a side
unfoldable pub refusal_message : Side → List ℕ → List Field → Option SplitFault
    → Result Message Fault
refusal_message side msg_type fields fault =
    if is_refusal msg_type then message_of side msg_type fields fault else Err NotSupported
