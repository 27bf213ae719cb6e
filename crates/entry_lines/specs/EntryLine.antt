-- Own: the line of an entry, as the program prints it; docs/DEFINITIONS.md, "Taps and lines".
use Rattle.std.specs.Prelude.{ℕ, ◌==◌, Bool, true, false, List, [], ◌∷◌, ◌++◌, take, drop, codes}
use Rattle.std.specs.Prelude.{not}
use Rattle.std.specs.Prelude.{Some, None, if◌then◌else◌, take_while, bytes_eq}
use Rattle.std.specs.List.{join_by}
use Rattle.std.specs.Fmt.{decimal}
use Rattle.std.specs.declared.option.Option.{Option}
use Rattle.order_meaning.specs.declared.Side.{Side}
use Rattle.order_meaning.specs.declared.Side.TheVariants.{Client, Venue}
use Rattle.pair_entries.specs.declared.entry.Took.{Took}
use Rattle.pair_entries.specs.declared.entry.Out.{Out}
use Rattle.pair_entries.specs.declared.entry.Entry.{Entry}
use Rattle.pair_entries.specs.Payload.{Next}

abbrev pub side_name : Side → List ℕ
side_name Client = codes "client"
side_name Venue = codes "venue"

-- the MsgType(35) of a body: what stands behind `35=`, up to the next SOH or the end; empty where
-- the body does not begin so
abbrev pub type_in : List ℕ → List ℕ
type_in raw =
    if bytes_eq (take 3 raw) (codes "35=") then take_while (λ byte. not (byte == 1)) (drop 3 raw)
    else []

-- a message: `client:2:D`
abbrev pub message_words : Side → ℕ → List ℕ → List ℕ
message_words side number msg_type =
    side_name side ++ codes ":" ++ decimal number ++ codes ":" ++ msg_type

abbrev pub took_words : Option Took → List ℕ
took_words None = codes "none"
took_words (Some took) = message_words took.side took.number (type_in took.raw)

-- a new day, or what was taken
abbrev pub taken_words : Bool → Option Took → List ℕ
taken_words true took = codes "day"
taken_words false took = took_words took

abbrev pub out_words : Out → List ℕ
out_words out = message_words out.side out.number out.msg_type

-- the messages, with commas between them
abbrev pub outs_words : List Out → List ℕ
outs_words [] = codes "none"
outs_words (out ∷ outs) = join_by out_words (codes ",") (out ∷ outs)

-- client in, client out, venue in, venue out
abbrev pub next_words : Next → List ℕ
next_words next =
    decimal next.0 ++ codes "," ++ decimal next.1 ++ codes "," ++ decimal next.2 ++ codes ","
    ++ decimal next.3

unfoldable pub entry_line : ℕ → Entry → List ℕ
entry_line number entry =
    decimal number ++ codes " at=" ++ decimal entry.at ++ codes " took="
    ++ taken_words entry.reset entry.took
    ++ codes " outs=" ++ outs_words entry.outs ++ codes " next=" ++ next_words entry.next
    ++ codes "\n"
