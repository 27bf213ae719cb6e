-- Own: the capture of an input, and its replay; docs/DEFINITIONS.md, "A run of the program".
use Rattle.std.specs.Prelude.{◌≡◌, ◌⊎◌, ℕ, ◌+◌, ◌≤◌, List, length, Result, Ok, Err, ⊤}
use Rattle.std.specs.declared.option.Option.{Option}
use Rattle.std.specs.Io.KnownBytes.{IsAtEnd}
use Rattle.whole_input.specs.declared.reading.TheConstants.{MAX_INPUT}
use Rattle.whole_input.specs.declared.reading.InputError.{InputError}
use Rattle.whole_input.specs.declared.reading.InputError.TheVariants as inputs
use Rattle.capture_text.specs.declared.capture.Capture.{Capture}
use Rattle.capture_text.specs.declared.reading.CaptureFault.{CaptureFault}
use Rattle.capture_text.specs.declared.reading.CaptureFault.TheVariants as faults
use Rattle.capture_text.specs.Reading.{Reads}
use Rattle.drop_taps.specs.Shown.{TapState}
use Rattle.replay_lines.specs.declared.printing.PrintError.{PrintError}
use Rattle.replay_lines.specs.declared.printing.PrintError.TheVariants as prints
use Rattle.capture_replay.specs.declared.error.ReplayError.{ReplayError}
use Rattle.capture_replay.specs.declared.error.ReplayError.TheVariants as errors
use Rattle.capture_replay.specs.Replay.{Replays}

abbrev pub error_of_input : InputError → ReplayError
error_of_input inputs.Fault = errors.InputFault
error_of_input inputs.TooLong = errors.InputTooLong
error_of_input inputs.NoMemory = errors.NoMemory

abbrev pub error_of_capture : CaptureFault → ReplayError
error_of_capture (faults.Line line) = errors.CaptureRefused line
error_of_capture faults.NoMemory = errors.NoMemory

abbrev pub error_of_print : PrintError → ReplayError
error_of_print prints.OutputFault = errors.OutputFault
error_of_print prints.NoMemory = errors.NoMemory

-- What was taken of an input that is to be a capture, and what is left of it, by the answer: all of
-- it where it is read as one, or its first line outside is named; one byte more than it may have;
-- or some of it, before a fault or for want of memory. No output fails here.
abbrev pub IsRead : List ℕ → Option (List ℕ) → Result Capture ReplayError → Type 0
IsRead taken left (Ok capture) =
    (length taken ≤ MAX_INPUT) × IsAtEnd left × Reads taken (Ok capture)
IsRead taken left (Err (errors.CaptureRefused line)) =
    (length taken ≤ MAX_INPUT) × IsAtEnd left × Reads taken (Err (faults.Line line))
IsRead taken left (Err errors.InputTooLong) = length taken ≡ MAX_INPUT + 1
IsRead taken left (Err errors.InputFault) = length taken ≤ MAX_INPUT
IsRead taken left (Err errors.NoMemory) = length taken ≤ MAX_INPUT
IsRead taken left (Err errors.OutputFault) = ⊥

-- it was read as a capture, which was then replayed with this answer
abbrev pub ReplaysRead : {T : Type 0} → (T → TapState) → List ℕ → Option (List ℕ)
    → (seen now : List T) → Result ⊤ PrintError → (old new : Option (List ℕ)) → Type 0
ReplaysRead state taken left seen now answer old new = (capture : Capture)
    × IsRead taken left (Ok capture) × Replays state capture seen now answer old new

-- it was not, and neither the taps nor the sink were called
abbrev pub IsUnplayed : {T : Type 0} → List ℕ → Option (List ℕ) → ReplayError
    → (seen now : List T) → (old new : Option (List ℕ)) → Type 0
IsUnplayed taken left error seen now old new =
    IsRead taken left (Err error) × (now ≡ seen) × (new ≡ old)

-- THE CAPTURE OF AN INPUT WAS REPLAYED, by the answer: what was taken of the input, and what is
-- left; and what was played and put.
abbrev pub Replayed : {T : Type 0} → (T → TapState) → List ℕ → Option (List ℕ)
    → (seen now : List T) → Result ⊤ ReplayError → (old new : Option (List ℕ)) → Type 0
Replayed state taken left seen now (Ok value) old new =
    ReplaysRead state taken left seen now (Ok value) old new
Replayed state taken left seen now (Err errors.OutputFault) old new =
    ReplaysRead state taken left seen now (Err prints.OutputFault) old new
Replayed state taken left seen now (Err errors.NoMemory) old new =
    IsUnplayed taken left errors.NoMemory seen now old new
    ⊎ ReplaysRead state taken left seen now (Err prints.NoMemory) old new
Replayed state taken left seen now (Err error) old new =
    IsUnplayed taken left error seen now old new
