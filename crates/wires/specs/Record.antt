-- Own: a record of a wire as it is kept, with a hang up as a mark beside the call before it;
-- docs/DEFINITIONS.md, "Wires and clocks".
use Rattle.std.specs.Prelude.{Bool, List, [], ◌∷◌, take, if◌then◌else◌}
use Rattle.wires.specs.Wire.{WireCall, Poll, Send, HangUp, Broken}
use Rattle.wires.specs.Script.{item_of}
use Rattle.wires.specs.declared.record.Call.{Call}
use Rattle.wires.specs.declared.record.Call.TheVariants as call
use Rattle.wires.specs.declared.record.Noted.{Noted}

abbrev pub call_of : Call → WireCall
call_of (call.Poll item) = Poll (item_of item)
call_of call.FailedPoll = Poll Broken
call_of (call.Send piece wrote done) = Send piece.items (take wrote piece.items) done

-- a mark is one call more
abbrev pub marked : Bool → List WireCall → List WireCall
marked hung_up calls = if hung_up then HangUp ∷ calls else calls

abbrev pub calls_of : List Noted → List WireCall
calls_of [] = []
calls_of (noted ∷ rest) = call_of noted.call ∷ marked noted.hung_up (calls_of rest)
