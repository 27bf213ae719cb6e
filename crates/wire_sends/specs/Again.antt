-- Own: what is asked for again; and the messages as they are read one after another.
use Rattle.std.specs.Prelude.{◌≡◌, ℕ, ◌+◌, ◌-◌, ◌≤◌, Some, None, List, ◌++◌, map, Bool}
use Rattle.std.specs.declared.option.Option.{Option}
use Rattle.std.specs.Option.{option_map}
use Rattle.order_meaning.specs.declared.Side.{Side}
use Rattle.pair_entries.specs.declared.TheConstants.{MAX_AT, MAX_NUMBER, MAX_NEXT}
use Rattle.pair_journal.specs.OutBuf.{OutAt}
use Rattle.wires.specs.Wire.{WireCall}
use Rattle.pair_entries.specs.declared.entry.Entry.{Entry}
use Rattle.kept_entries.specs.Numbers.{next_out, numbers_after, first_numbers}
use Rattle.event_decisions.specs.Decide.{Repeat}
use Rattle.life_laws.specs.Forms.{Placed, Form}
use Rattle.life_laws.specs.Repeats.{Run}
use Rattle.wire_sends.specs.declared.repeats.Run.{Run as KeptRun}
use Rattle.wire_sends.specs.Sent.{Sent}

-- the out of this side and number that is told
abbrev pub placed_by : Side → ℕ → OutAt → Placed
placed_by side number told = record {
  out = record {
    side = side;
    number = number;
    admin = told.admin;
    resend = told.resend;
    msg_type = told.msg_type;
    content = told.content;
  };
  at = told.at;
}

abbrev pub run_of : Option KeptRun → Option Run
run_of None = None
run_of (Some run) = Some (record { from = run.from; at = run.at })

-- a run began before this number
abbrev pub IsBegun : Option KeptRun → ℕ → Type 0
IsBegun None number = Unit {0}
IsBegun (Some run) number =
    (1 ≤ run.from) × (run.from + 1 ≤ number) × (number ≤ MAX_NEXT) × (run.at ≤ MAX_AT)

-- of these forms some were sent, and these are left
pub record Repeated (old new : Option (List WireCall)) (up : Bool) (frame : Form → List ℕ)
    (after : Bool) (left all : List Form) : Type 0 where
  pub done : List Form
  pub sent : Sent old new up (map frame done) after
  pub joined : done ++ left ≡ all

-- what is asked for again: of whom, and the first and the last number
abbrev pub repeat_in : Option (Side × ℕ × ℕ) → Option Repeat
repeat_in resend = option_map (λ r. record { side = r.0; from = r.1; to = r.2 }) resend

-- it was given out
abbrev pub IsGiven : List Entry → Option (Side × ℕ × ℕ) → Type 0
IsGiven entries None = Unit {0}
IsGiven entries (Some r) = (1 ≤ r.1)
    × (r.2 ≤ next_out r.0 (numbers_after first_numbers entries) - 1) × (r.2 ≤ MAX_NUMBER)
