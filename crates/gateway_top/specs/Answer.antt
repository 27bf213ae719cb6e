-- Inside: what the answer of a call that checks or translates a body comes to; no clause of run
-- rests on it.
use Rattle.std.specs.Prelude.{ℕ, Option, Some, None, Result, Ok, Err}
use Rattle.std.specs.declared.alloc.AllocError.{AllocError}
use Rattle.std.specs.Allocator.{alloc_error}
use Rattle.order_meaning.specs.declared.fault.Fault.{Fault}
use Rattle.order_meaning.specs.declared.fault.Fault.TheVariants as faults
use Rattle.translation.specs.declared.error.TranslateError.{TranslateError}
use Rattle.translation.specs.declared.error.TranslateError.TheVariants as errors
use Rattle.gateway_top.specs.declared.finding.Finding.{Finding}
use Rattle.gateway_top.specs.declared.finding.Finding.TheVariants.{Good, Reason, NoCounterpart}
use Rattle.gateway_top.specs.declared.finding.Finding.TheVariants.{NotSupported}

-- what is found of a fault; want of memory is none of a message's
abbrev pub fault_finding : Fault → Option Finding
fault_finding (faults.Session tag reason) = Some (Reason tag reason)
fault_finding (faults.NoCounterpart tag) = Some (NoCounterpart tag)
fault_finding faults.NotSupported = Some NotSupported
fault_finding faults.NoMemory = None

-- the value, or want of memory
abbrev pub or_memory : {A : Type 0} → Option A → Result A AllocError
or_memory None = Err alloc_error
or_memory (Some value) = Ok value

-- what is found of a message by what its check answered
abbrev pub found_by : {A : Type 0} → Result A TranslateError → Result Finding AllocError
found_by (Ok done) = Ok Good
found_by (Err (errors.Faulty fault)) = or_memory (fault_finding fault)
found_by (Err (errors.Lacking tag)) = Ok (NoCounterpart tag)
found_by (Err other) = Err alloc_error

-- where a frame that begins here is refused by what its translation answered
abbrev pub refused_by : {A : Type 0} → ℕ → Result A TranslateError → Result (Option ℕ) AllocError
refused_by at (Ok done) = Ok None
refused_by at (Err errors.NoMemory) = Err alloc_error
refused_by at (Err error) = Ok (Some at)
