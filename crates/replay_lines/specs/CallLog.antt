-- Inside: the calls on a wire as they are kept, by their lines, and how these are shown.
use Rattle.std.specs.Prelude.{ℕ, ◌+◌, ◌==◌, if◌then◌else◌, List, [], ◌∷◌, ◌++◌, true}
use Rattle.std.specs.List.{flat_map}
use Rattle.wires.specs.Wire.{WireCall, Poll, Send, HangUp, Nothing, Opened, Bytes, Closed}
use Rattle.replay_lines.specs.ReplayLines.{piece_line, numbered}
use Rattle.replay_lines.specs.declared.call_log.Call.{Call}
use Rattle.replay_lines.specs.declared.call_log.Call.TheVariants as call

abbrev pub call_of : Call → WireCall
call_of call.Nothing = Poll Nothing
call_of call.Opened = Poll Opened
call_of (call.Bytes bytes) = Poll (Bytes bytes.now)
call_of call.Closed = Poll Closed
call_of (call.Sent piece) = Send piece.now piece.now true
call_of call.HungUp = HangUp

-- an opening is kept as SOH, and of a send the line of its piece, which has no SOH
abbrev pub kept_line : WireCall → List ℕ
kept_line (Poll Opened) = 1 ∷ []
kept_line (Send piece wrote done) = piece_line wrote
kept_line call = []

abbrev pub kept_lines : List WireCall → List ℕ
kept_lines calls = flat_map kept_line calls

-- how many connections there are behind a byte that is kept
abbrev pub opened_by : ℕ → ℕ → ℕ
opened_by connections byte = if byte == 1 then connections + 1 else connections

-- A byte that is kept, behind so many connections, as it is shown: SOH as the line of the next one,
-- and another byte as itself where there is one.
abbrev pub shown_byte : List ℕ → ℕ → ℕ → List ℕ
shown_byte side connections byte =
    if byte == 1 then numbered side (connections + 1)
    else (if connections == 0 then [] else byte ∷ [])

abbrev pub opened_in : ℕ → List ℕ → ℕ
opened_in connections [] = connections
opened_in connections (byte ∷ kept) = opened_in (opened_by connections byte) kept

abbrev pub shown : List ℕ → ℕ → List ℕ → List ℕ
shown side connections [] = []
shown side connections (byte ∷ kept) =
    shown_byte side connections byte ++ shown side (opened_by connections byte) kept
