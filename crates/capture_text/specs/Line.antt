-- Inside: what the readers of single lines answer.
use Rattle.std.specs.Prelude.{◌≡◌, ◌≢◌, ◌<◌, ◌≤◌, ◌^◌, ℕ, List, map, All}
use Rattle.std.specs.Prelude.{Some, None}
use Rattle.std.specs.declared.option.Option.{Option}
use Rattle.frame_grammar.specs.Frame.{IsBody, frame_of}
use Rattle.capture_text.specs.declared.capture.Event.{Event}
use Rattle.capture_text.specs.declared.capture.Event.TheVariants as event
use Rattle.capture_text.specs.Capture.{written, IsByte, IsRound, kind_of, line_of}

-- the bytes that a text writes, or it writes none
abbrev pub Writes : List ℕ → Option (List ℕ) → Type 0
Writes text (Some bytes) = (text ≡ map written bytes) × All IsByte bytes
Writes text None = (bytes : List ℕ) → All IsByte bytes → text ≢ map written bytes

-- the bounds of an event, wherever it stands
abbrev pub IsBounded : Event → Type 0
IsBounded (event.Stop call image) = (1 ≤ call) × (call ≤ 1000000)
IsBounded (event.At ms) = ms < 2 ^ 64
IsBounded (event.Text side bytes) = All IsByte bytes × IsRound bytes
IsBounded (event.Frame side body) =
    All IsByte body × IsBody body × IsRound (frame_of (kind_of side) body)
IsBounded other = Unit {0}

-- the event of a line, or it is the line of none
abbrev pub LineSays : List ℕ → Option Event → Type 0
LineSays line (Some event) = (line ≡ line_of event) × IsBounded event
LineSays line None = (event : Event) → IsBounded event → line ≢ line_of event
