-- Inside: how the logic stores the calls on a wire, which clauses alone see.
use Rattle.std.specs.Prelude.{◌≡◌, ℕ, suc, zero, Bool, true, false, List, [], refl}
use Rattle.std.specs.Coded.{Coded, code_by, coded×, coded_ℕ, coded_bool, coded_list}
use Rattle.wires.specs.Wire.{WireCall, Poll, Send, HangUp, Nothing, Opened, Bytes, Closed, Broken}
use Rattle.replay_lines.specs.declared.past.Kind.{Kind}
use Rattle.replay_lines.specs.declared.past.Kind.TheVariants as kind

abbrev Code : Type 0
Code = (ℕ × Bool) × (List ℕ × List ℕ)

-- a number for each call, with what it has
abbrev code_of : WireCall → Code
code_of (Poll Nothing) = ((0, false), ([], []))
code_of (Poll Opened) = ((1, false), ([], []))
code_of (Poll (Bytes bytes)) = ((2, false), (bytes, []))
code_of (Poll Closed) = ((3, false), ([], []))
code_of (Poll Broken) = ((4, false), ([], []))
code_of (Send piece wrote done) = ((5, done), (piece, wrote))
code_of HangUp = ((6, false), ([], []))

abbrev numbered : ℕ → Bool → (piece wrote : List ℕ) → WireCall
numbered zero done piece wrote = Poll Nothing
numbered (suc zero) done piece wrote = Poll Opened
numbered (suc (suc zero)) done piece wrote = Poll (Bytes piece)
numbered (suc (suc (suc zero))) done piece wrote = Poll Closed
numbered (suc (suc (suc (suc zero)))) done piece wrote = Poll Broken
numbered (suc (suc (suc (suc (suc zero))))) done piece wrote = Send piece wrote done
numbered number done piece wrote = HangUp

abbrev call_by : Code → WireCall
call_by code = numbered code.0.0 code.0.1 code.1.0 code.1.1

abbrev again : (call : WireCall) → call_by (code_of call) ≡ call
again (Poll Nothing) = refl
again (Poll Opened) = refl
again (Poll (Bytes bytes)) = refl
again (Poll Closed) = refl
again (Poll Broken) = refl
again (Send piece wrote done) = refl
again HangUp = refl

abbrev coded_call : Coded WireCall
coded_call = code_by Code (coded× (coded× coded_ℕ coded_bool)
    (coded× (coded_list coded_ℕ) (coded_list coded_ℕ))) code_of call_by again

abbrev pub coded_calls : Coded (List WireCall)
coded_calls = coded_list coded_call

-- a call of a kind with these bytes
abbrev pub call_with : Kind → List ℕ → WireCall
call_with kind.Nothing bytes = Poll Nothing
call_with kind.Opened bytes = Poll Opened
call_with kind.Bytes bytes = Poll (Bytes bytes)
call_with kind.Closed bytes = Poll Closed
call_with kind.Sent bytes = Send bytes bytes true
call_with kind.HungUp bytes = HangUp
