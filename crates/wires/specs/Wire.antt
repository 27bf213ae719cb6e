-- Own: what is done on a wire, and the connections that this makes; docs/DEFINITIONS.md, "Wires and
-- clocks".
use Rattle.std.specs.Prelude.{◌≡◌, ℕ, ◌≤◌, Bool, true, false, not, List, [], ◌∷◌, ◌++◌, length}
use Rattle.std.specs.Prelude.{take, fold, if◌then◌else◌, ⊤, Some, None, Result, Ok, Err}
use Rattle.std.specs.declared.option.Option.{Option}
use Rattle.wires.specs.Told.{GrowsBy}
use Rattle.wires.specs.declared.wire.Arrival.{Arrival}
use Rattle.wires.specs.declared.wire.Arrival.TheVariants as arrival

-- what a poll gave
pub data Came : Type 0 where
  Nothing : Came
  Opened : Came
  Bytes : (bytes : List ℕ) → Came
  Closed : Came
  -- the poll failed
  Broken : Came

-- A call on a wire that its record has: a poll, with what it gave; a send, with its piece, the
-- front of it that was written, and whether it was done; a hang up that ended a connection.
pub data WireCall : Type 0 where
  Poll : (came : Came) → WireCall
  Send : (piece wrote : List ℕ) (done : Bool) → WireCall
  HangUp : WireCall

-- whether a wire is within a connection after a call
abbrev pub within_after : Bool → WireCall → Bool
within_after within (Poll Nothing) = within
within_after within (Poll Opened) = true
within_after within (Poll (Bytes bytes)) = within
within_after within (Poll Closed) = false
within_after within (Poll Broken) = false
within_after within (Send piece wrote done) = if done then within else false
within_after within HangUp = false

-- whether a wire with this record is within a connection
abbrev pub is_within : List WireCall → Bool
is_within calls = fold within_after false calls

-- what was read and written on one connection
pub record Connection : Type 0 where
  pub read : List ℕ
  pub written : List ℕ

-- the last connection, changed
abbrev pub change_last : (Connection → Connection) → List Connection → List Connection
change_last f [] = []
change_last f (connection ∷ []) = f connection ∷ []
change_last f (connection ∷ next ∷ rest) = connection ∷ change_last f (next ∷ rest)

abbrev pub add_read : List ℕ → Connection → Connection
add_read bytes connection = record connection { read = connection.read ++ bytes }

abbrev pub add_written : List ℕ → Connection → Connection
add_written bytes connection = record connection { written = connection.written ++ bytes }

-- the connections after a call
abbrev pub connections_after : List Connection → WireCall → List Connection
connections_after all (Poll Opened) = all ++ record { read = []; written = [] } ∷ []
connections_after all (Poll (Bytes bytes)) = change_last (add_read bytes) all
connections_after all (Send piece wrote done) = change_last (add_written wrote) all
connections_after all call = all

-- the connections of a record
abbrev pub transcript : List WireCall → List Connection
transcript calls = fold connections_after [] calls

-- what came by an arrival, of which the bytes stand at the front of the buffer
abbrev pub came_by : Arrival → List ℕ → Came
came_by arrival.Nothing buf = Nothing
came_by arrival.Opened buf = Opened
came_by (arrival.Bytes n) buf = Bytes (take n buf)
came_by arrival.Closed buf = Closed

-- what came by the answer of a poll
abbrev pub came_of : {E : Type 0} → Result Arrival E → List ℕ → Came
came_of (Ok arrived) buf = came_by arrived buf
came_of (Err error) buf = Broken

-- some bytes, and no more than the buffer has room for
abbrev pub Fits : Arrival → List ℕ → Type 0
Fits (arrival.Bytes n) buf = (1 ≤ n) × (n ≤ length buf)
Fits other buf = ⊤

-- Bytes and an end come within a connection alone, and an opening between two.
abbrev pub may_come : Bool → Came → Bool
may_come within Nothing = true
may_come within Opened = not within
may_come within (Bytes []) = false
may_come within (Bytes (byte ∷ bytes)) = within
may_come within Closed = within
may_come within Broken = true

-- a send stands in the record with what was written: all at `Ok`, and a front at `Err`
abbrev pub SendGrows : {T E : Type 0}
    → Option (List WireCall) → Option (List WireCall) → List ℕ → Result T E → Type 0
SendGrows old new piece (Ok value) = GrowsBy old new (Send piece piece true ∷ [])
SendGrows old new piece (Err error) =
    (n : ℕ) × GrowsBy old new (Send piece (take n piece) false ∷ [])

-- a hang up stands in the record where it ended a connection
abbrev pub HangUpGrows : Option (List WireCall) → Option (List WireCall) → Type 0
HangUpGrows None new = new ≡ None
HangUpGrows (Some old) new = GrowsBy (Some old) new (if is_within old then HangUp ∷ [] else [])
