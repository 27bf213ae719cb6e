-- Own: what a journal took from a side and gave to it, as a conversation of that side. A message is
-- read without the fields of its header; PossResend(97) alone counts of them.
use Rattle.std.specs.Prelude.{List, map, filter_map, Option, Some, None, Result}
use Rattle.std.specs.List.{flat_map}
use Rattle.std.specs.Option.{option_map}
use Rattle.std.specs.Result.{result_ok}
use Rattle.message_tables.specs.Tables.{Message, ◌>>=◌}
use Rattle.order_meaning.specs.declared.Side.{Side}
use Rattle.order_meaning.specs.declared.fault.Fault.{Fault}
use Rattle.pair_entries.specs.declared.entry.Entry.{Entry}
use Rattle.kept_entries.specs.Numbers.{outs_to}
use Rattle.message_answers.specs.Message.{said_by}
use Rattle.life_laws.specs.Justified.{raw_of}
use Rattle.life_laws.specs.Receiver.{message_of_out, read_body}
use Rattle.life_laws.specs.Taken as receiver
use Rattle.life_laws.specs.Taken.{Read, GapFill, Reset, Other}
use Rattle.book_laws.specs.Heard.{Heard, heard_by, message_to, with_resend}
use Rattle.book_laws.specs.SetAside.{Conversation}

abbrev pub heard_as : receiver.Message → Result Message Fault → Heard
heard_as m read = heard_by m.number m.resend m.msg_type m.fields
    (option_map (with_resend m.resend) (result_ok read))

-- what a side said in a message that it sent, by the tables of its version
abbrev pub heard_from : Side → receiver.Message → Heard
heard_from side m = heard_as m (said_by side m.msg_type m.fields None)

-- what a side hears in a message that it takes, by the tables of its version
abbrev pub heard_at : Side → receiver.Message → Heard
heard_at side m = heard_as m (message_to side m.msg_type m.fields)

abbrev pub message_in : Read → Option receiver.Message
message_in (Other m is_admin) = Some m
message_in (GapFill number to) = None
message_in Reset = None

-- what an entry took from a side
abbrev pub taken : Side → Entry → Option Heard
taken side e = raw_of side e.took >>= (λ raw.
    option_map (heard_from side) (message_in (read_body raw)))

-- what an entry gave to a side
abbrev pub given : Side → Entry → List Heard
given side e = map (λ out. heard_at side (message_of_out out)) (outs_to side e.outs)

-- THE PAIR OF A SIDE: what the entries took from it, and gave to it
abbrev pub pair : Side → List Entry → Conversation
pair side entries =
    record { sent = filter_map (taken side) entries; took = flat_map (given side) entries }
