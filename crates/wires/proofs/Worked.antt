-- Worked examples, by computation.
use Rattle.std.specs.Prelude.{◌≡◌, true, false, List, [], ◌∷◌, codes, refl, Some, None}
use Rattle.std.specs.Prelude.{Result, Ok, Err}
use Rattle.outside.specs.declared.stream.Failed.{Failed}
use Rattle.wires.specs.Told.{GrowsBy}
use Rattle.wires.specs.Wire.{Nothing, Opened, Bytes, Closed, Broken, WireCall, Poll, Send, HangUp}
use Rattle.wires.specs.Wire.{is_within, transcript, came_of, may_come}
use Rattle.wires.specs.Wire.{SendGrows, HangUpGrows}
use Rattle.wires.specs.Laws.{AreInPlace, has_place}
use Rattle.wires.specs.Script.{next_of, rest_of, Plays}
use Rattle.wires.specs.Clock.{moment_at, moments_told}
use Rattle.wires.specs.Quiet.{quiet}
use Rattle.wires.specs.MemWire.{WireState, noted, lost, hung_up, connections_told, sent}
use Rattle.wires.specs.declared.wire.Arrival.{Arrival}
use Rattle.wires.specs.declared.wire.Arrival.TheVariants as arrival

-- a connection on which two polls gave bytes and one send was done
abbrev first : List WireCall
first = Poll Nothing ∷ Poll Opened ∷ Poll (Bytes (codes "ab")) ∷ Poll Nothing
    ∷ Send (codes "xyz") (codes "xyz") true ∷ Poll (Bytes (codes "c")) ∷ []

-- it is hung up, and the next one ends by a send that failed behind ten bytes
abbrev both : List WireCall
both = Poll Opened ∷ Poll (Bytes (codes "abc")) ∷ HangUp ∷ Poll Nothing ∷ Poll Opened
    ∷ Send (codes "0123456789+") (codes "0123456789") false ∷ []

within_one : is_within first ≡ true
within_one = refl

one_connection : transcript first ≡ (record { read = codes "abc"; written = codes "xyz" }) ∷ []
one_connection = refl

between_two : is_within both ≡ false
between_two = refl

two_connections : transcript both ≡ (record { read = codes "abc"; written = [] })
    ∷ (record { read = []; written = codes "0123456789" }) ∷ []
two_connections = refl

-- each way to end a connection
ends : (is_within (Poll Opened ∷ Poll Closed ∷ []) ≡ false)
    × (is_within (Poll Opened ∷ Poll Broken ∷ []) ≡ false)
    × (is_within (Poll Opened ∷ HangUp ∷ []) ≡ false)
    × (is_within (Poll Opened ∷ Send (codes "a") (codes "a") false ∷ []) ≡ false)
    × (is_within (Poll Opened ∷ Send (codes "a") (codes "a") true ∷ []) ≡ true)
ends = (refl, refl, refl, refl, refl)

nothing_yet : (is_within [] ≡ false) × (transcript [] ≡ [])
nothing_yet = (refl, refl)

-- an opening alone is a connection, also where nothing is read or written on it
bare : transcript (Poll Opened ∷ Poll Closed ∷ Poll Opened ∷ [])
    ≡ (record { read = []; written = [] }) ∷ (record { read = []; written = [] }) ∷ []
bare = refl

-- each call has its place in a record; a hang up or a send between connections has none
in_place : AreInPlace false both
in_place = (refl, (refl, (refl, (refl, (refl, (refl, tt))))))

no_place : (has_place false HangUp ≡ false) × (has_place false (Send [] [] true) ≡ false)
    × (has_place true (Poll Opened) ≡ false)
no_place = (refl, refl, refl)

abbrev failed : Result Arrival Failed
failed = Err (record {})

abbrev ok : Arrival → Result Arrival Failed
ok arrived = Ok arrived

-- of the buffer the front that was filled
answers : (came_of (ok (arrival.Bytes 2)) (codes "abcd") ≡ Bytes (codes "ab"))
    × (came_of (ok arrival.Nothing) (codes "abcd") ≡ Nothing)
    × (came_of (ok arrival.Opened) (codes "abcd") ≡ Opened)
    × (came_of (ok arrival.Closed) (codes "abcd") ≡ Closed)
    × (came_of failed (codes "abcd") ≡ Broken)
answers = (refl, refl, refl, refl, refl)

-- what may come within a connection, and between two
within_allows : (may_come true Nothing ≡ true) × (may_come true Opened ≡ false)
    × (may_come true (Bytes (codes "a")) ≡ true) × (may_come true (Bytes []) ≡ false)
    × (may_come true Closed ≡ true) × (may_come true Broken ≡ true)
within_allows = (refl, refl, refl, refl, refl, refl)

between_allows : (may_come false Nothing ≡ true) × (may_come false Opened ≡ true)
    × (may_come false (Bytes (codes "a")) ≡ false) × (may_come false (Bytes []) ≡ false)
    × (may_come false Closed ≡ false) × (may_come false Broken ≡ true)
between_allows = (refl, refl, refl, refl, refl, refl)

-- A record grows, or is told no more; where it is not told nothing can be said of it.
grows : GrowsBy (Some (Poll Opened ∷ []))
    (Some (Poll Opened ∷ Poll Nothing ∷ [])) (Poll Nothing ∷ [])
grows = refl

lost_now : GrowsBy (Some (Poll Opened ∷ [])) None (Poll Nothing ∷ [])
lost_now = tt

lost_before : GrowsBy {A = WireCall} None None (Poll Nothing ∷ [])
lost_before = refl

-- a send that failed wrote a front
cut_short : SendGrows {T = Unit {0}} {E = Failed}
    (Some []) (Some (Send (codes "abc") (codes "ab") false ∷ [])) (codes "abc") (Err (record {}))
cut_short = (2, refl)

-- a hang up within a connection stands in the record, and one between two does not
hangs_up : HangUpGrows (Some (Poll Opened ∷ [])) (Some (Poll Opened ∷ HangUp ∷ []))
hangs_up = refl

hangs_up_no_more : HangUpGrows (Some (Poll Opened ∷ HangUp ∷ [])) (Some (Poll Opened ∷ HangUp ∷ []))
hangs_up_no_more = refl

-- Bytes for which there is no room are left for the next poll.
no_room : (next_of true 2 (Bytes (codes "abc") ∷ Closed ∷ []) ≡ Bytes (codes "ab"))
    × (rest_of true 2 (Bytes (codes "abc") ∷ Closed ∷ []) ≡ Bytes (codes "c") ∷ Closed ∷ [])
no_room = (refl, refl)

room : (next_of true 3 (Bytes (codes "abc") ∷ Closed ∷ []) ≡ Bytes (codes "abc"))
    × (rest_of true 3 (Bytes (codes "abc") ∷ Closed ∷ []) ≡ Closed ∷ [])
room = (refl, refl)

-- What may not come is nothing, and it is taken whole.
misplaced : (next_of false 1 (Bytes (codes "abc") ∷ Opened ∷ []) ≡ Nothing)
    × (rest_of false 1 (Bytes (codes "abc") ∷ Opened ∷ []) ≡ Opened ∷ [])
    × (next_of true 1 (Opened ∷ []) ≡ Nothing) × (rest_of true 1 (Opened ∷ []) ≡ [])
    × (next_of false 1 (Closed ∷ []) ≡ Nothing) × (rest_of false 1 (Closed ∷ []) ≡ [])
    × (next_of true 1 (Bytes [] ∷ []) ≡ Nothing) × (rest_of true 1 (Bytes [] ∷ []) ≡ [])
misplaced = (refl, refl, refl, refl, refl, refl, refl, refl)

placed : (next_of false 1 (Opened ∷ []) ≡ Opened) × (next_of true 1 (Closed ∷ []) ≡ Closed)
    × (next_of true 1 [] ≡ Nothing) × (rest_of true 1 [] ≡ [])
placed = (refl, refl, refl, refl)

-- the moments of a list, and behind its end
moments : (moment_at (7 ∷ 5 ∷ []) 0 ≡ 7) × (moment_at (7 ∷ 5 ∷ []) 1 ≡ 5)
    × (moment_at (7 ∷ 5 ∷ []) 2 ≡ 5) × (moment_at (7 ∷ 5 ∷ []) 900 ≡ 5)
    × (moment_at [] 0 ≡ 0) × (moment_at [] 3 ≡ 0)
moments = (refl, refl, refl, refl, refl, refl)

told_moments : (moments_told (record { listed = 7 ∷ 5 ∷ []; asked = 3 }) ≡ Some (7 ∷ 5 ∷ 5 ∷ []))
    × (moments_told (record { listed = 7 ∷ []; asked = 18_446_744_073_709_551_615 }) ≡ None)
told_moments = (refl, refl)

told_polls : (quiet 2 ≡ Some (Poll Nothing ∷ Poll Nothing ∷ []))
    × (quiet 18_446_744_073_709_551_615 ≡ None)
told_polls = (refl, refl)

abbrev done : Result (Unit {0}) Failed
done = Ok tt

abbrev not_done : Result (Unit {0}) Failed
not_done = Err (record {})

-- a send that is listed writes ten bytes, or a shorter piece whole
listed_sends : (sent 10 not_done (codes "0123456789+")
    ≡ Send (codes "0123456789+") (codes "0123456789") false)
    × (sent 10 not_done (codes "abc")
    ≡ Send (codes "abc") (codes "abc") false)
    × (sent 10 done (codes "0123456789+")
    ≡ Send (codes "0123456789+") (codes "0123456789+") true)
listed_sends = (refl, refl, refl)

-- a wire within a connection
abbrev wire : WireState
wire = record {
  script = Closed ∷ [];
  recorded = Some (Poll Opened ∷ []);
  within = true;
  calls = record { made = 1; fail = []; faults = 0 };
  polls = 1;
}

hung : hung_up wire ≡ record wire { recorded = Some (Poll Opened ∷ HangUp ∷ []); within = false }
hung = refl

hung_twice : hung_up (hung_up wire) ≡ hung_up wire
hung_twice = refl

told_no_more : (connections_told (lost wire).recorded ≡ [])
    × ((noted (Poll Nothing) (lost wire)).recorded ≡ None)
told_no_more = (refl, refl)

-- what is read of a script: an end between connections is passed over, and a poll that fails takes
-- nothing
played : Plays false (Closed ∷ Opened ∷ Bytes (codes "ab") ∷ Closed ∷ [])
    (Poll Nothing ∷ Poll Broken ∷ Poll Opened ∷ Send (codes "x") (codes "x") true
    ∷ Poll (Bytes (codes "ab")) ∷ HangUp ∷ Poll Nothing ∷ Poll Nothing ∷ []) []
played = (_, (refl, refl), (_, refl, (_, (refl, refl), (_, refl, (_, (refl, refl), (_, refl, (_, (refl, refl), (_, (refl, refl), refl))))))))
