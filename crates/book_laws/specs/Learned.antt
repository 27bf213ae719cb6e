-- Standard: FIX 4.2 and FIX 5.0 SP2: what New Order (D), Cancel (F), Cancel/Replace (G) and Status
-- Request (H) ask for, and what Execution Report (8) and Order Cancel Reject (9) tell of an order.
-- Own: what a side has learned of what it took, and the same of what the other side said.
use Rattle.std.specs.Prelude.{ℕ, Bool, ◌&&◌, nat_lt, List, [], ◌∷◌, ◌++◌, Option, None, fold}
use Rattle.std.specs.Prelude.{map, filter, if◌then◌else◌}
use Rattle.std.specs.List.{list_any}
use Rattle.std.specs.Option.{option_map}
use Rattle.std.specs.Result.{result_ok}
use Rattle.message_tables.specs.Tables.{Message, ◌>>=◌}
use Rattle.order_meaning.specs.declared.Side.{Side}
use Rattle.order_meaning.specs.declared.Side.TheVariants.{Client, Venue}
use Rattle.order_meaning.specs.Request.{Request}
use Rattle.order_meaning.specs.Book.{Book}
use Rattle.pair_entries.specs.declared.entry.Took.{Took}
use Rattle.pair_entries.specs.declared.entry.Out.{Out}
use Rattle.pair_entries.specs.declared.entry.Entry.{Entry}
use Rattle.kept_entries.specs.Numbers.{is_side}
use Rattle.dict_fix42.specs.Sense.{request42}
use Rattle.dict_fix50.specs.Sense.{request50}
use Rattle.reports_fix42.specs.Step.{step42}
use Rattle.reports_fix50.specs.Step.{step50}
use Rattle.message_answers.specs.Answer.{other}
use Rattle.message_answers.specs.Message.{message_of}
use Rattle.life_laws.specs.Taken as receiver
use Rattle.book_laws.specs.Heard.{message_to, with_resend, book_after, is_among}
use Rattle.book_laws.specs.Heard.{report_types, request_types}

-- what goes on to a side: to the client reports, to the venue requests
abbrev pub types_to : Side → List (List ℕ)
types_to Client = report_types
types_to Venue = request_types

-- WHAT A SIDE HAS LEARNED of these: the client a book of orders, the venue what each request means
abbrev pub Learned : Side → Type 0
Learned Client = Book
Learned Venue = List (Option Request)

-- ---- of what it took

-- with one more message, by the codes of the side's version
abbrev pub with_taken : (side : Side) → Learned side → Option Message → Learned side
with_taken Client book m = book_after step42 book m
with_taken Venue meanings m = meanings ++ (m >>= request50) ∷ []

-- what a side reads in a message that it took, by the tables of its version
abbrev pub read_in : Side → receiver.Message → Option Message
read_in side m = option_map (with_resend m.resend) (result_ok (message_to side m.msg_type m.fields))

abbrev pub is_for : Side → receiver.Message → Bool
is_for side m = is_among (types_to side) m.msg_type

-- WHAT A SIDE HAS LEARNED OF THE MESSAGES THAT IT TOOK
abbrev pub learned_of_taken : (side : Side) → Learned side → List receiver.Message → Learned side
learned_of_taken side learned taken =
    fold (with_taken side) learned (map (read_in side) (filter (is_for side) taken))

-- ---- of what the other side said

-- with one more message, by the codes of the other version
abbrev pub with_said : (side : Side) → Learned side → Option Message → Learned side
with_said Client book m = book_after step50 book m
with_said Venue meanings m = meanings ++ (m >>= request42) ∷ []

-- an out is such a message to a side, under a number below n
abbrev pub goes_below : Side → ℕ → Out → Bool
goes_below side n out =
    is_side side out.side && (is_among (types_to side) out.msg_type && nat_lt out.number n)

-- the message of a side that was taken, by the tables of its version
abbrev pub said_by : Side → Took → Option Message
said_by side took = if is_side side took.side then result_ok (message_of side took.raw) else None

-- WHAT THE OTHER SIDE SAID in each message that went on to a side under a number below n
abbrev pub said_below : Side → ℕ → List Entry → List (Option Message)
said_below side n entries =
    map (λ e. e.took >>= said_by (other side))
    (filter (λ e. list_any (goes_below side n) e.outs) entries)

-- WHAT A SIDE WOULD HAVE LEARNED OF THAT
abbrev pub learned_of_said : (side : Side) → Learned side → List (Option Message) → Learned side
learned_of_said side learned said = fold (with_said side) learned said
