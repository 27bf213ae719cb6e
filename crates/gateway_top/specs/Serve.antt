-- Own: what it is that the gateway serves; docs/DEFINITIONS.md, "A run of the program".
use Rattle.std.specs.Prelude.{◌≡◌, ℕ, ◌+◌, ◌≤◌, List, length, Result, Ok, Err}
use Rattle.std.specs.declared.option.Option.{Option}
use Rattle.std.specs.Io.KnownBytes.{IsAtEnd}
use Rattle.whole_input.specs.declared.reading.TheConstants.{MAX_INPUT}
use Rattle.whole_input.specs.declared.reading.InputError.{InputError}
use Rattle.whole_input.specs.declared.reading.InputError.TheVariants as inputs
use Rattle.gateway_config.specs.declared.config.Config.{Config}
use Rattle.gateway_config.specs.declared.config.ConfigFault.{ConfigFault}
use Rattle.gateway_config.specs.declared.config.ConfigFault.TheVariants as faults
use Rattle.gateway_config.specs.Reading.{Reads}
use Rattle.gateway_life.specs.declared.end.LifeEnd.{LifeEnd}
use Rattle.gateway_life.specs.Laws.{AreShown}
use Rattle.gateway_top.specs.declared.serve_error.ServeError.{ServeError}
use Rattle.gateway_top.specs.declared.serve_error.ServeError.TheVariants as errors

-- ---- the configuration

abbrev pub error_of_input : InputError → ServeError
error_of_input inputs.Fault = errors.InputFault
error_of_input inputs.TooLong = errors.InputTooLong
error_of_input inputs.NoMemory = errors.NoMemory

abbrev pub error_of_config : ConfigFault → ServeError
error_of_config (faults.Key key) = errors.ConfigRefused key
error_of_config faults.NoMemory = errors.NoMemory

-- What was taken of an input that is to be a configuration, and what is left of it, by the answer:
-- all of it where it is read as one, or its first wrong key is named; one byte more than it may
-- have; or some of it, before a fault or for want of memory.
abbrev pub IsConfigured : List ℕ → Option (List ℕ) → Result Config ServeError → Type 0
IsConfigured taken left (Ok config) =
    (length taken ≤ MAX_INPUT) × IsAtEnd left × Reads taken (Ok config)
IsConfigured taken left (Err (errors.ConfigRefused key)) =
    (length taken ≤ MAX_INPUT) × IsAtEnd left × Reads taken (Err (faults.Key key))
IsConfigured taken left (Err errors.InputTooLong) = length taken ≡ MAX_INPUT + 1
IsConfigured taken left (Err errors.InputFault) = length taken ≤ MAX_INPUT
IsConfigured taken left (Err errors.NoMemory) = length taken ≤ MAX_INPUT

-- ---- the life

-- What was taken of the input, and what is left of it, by the answer; and the life with the
-- configuration that was read, whose names can be shown, where it began.
abbrev pub Served : List ℕ → Option (List ℕ) → Result LifeEnd ServeError
    → (Config → LifeEnd → Type 0) → Type 0
Served taken left (Ok end) lived =
    (config : Config) × IsConfigured taken left (Ok config) × AreShown config.names
    × lived config end
Served taken left (Err error) lived = IsConfigured taken left (Err error)
