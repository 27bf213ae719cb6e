-- Standard: FIX 4.2 and FIXT 1.1, "Resend Request" and "Sequence Reset (Gap Fill)": application
-- messages are sent again with PossDupFlag(43), and a gap fill stands for administrative ones.
-- Own: one gap fill for each run of them; docs/DECISIONS.md, "A life".
--
-- What is sent where messages are asked for again.
use Rattle.std.specs.Prelude.{ℕ, ◌+◌, ◌-◌, suc, zero, if◌then◌else◌, List, [], ◌∷◌, ◌++◌}
use Rattle.std.specs.Prelude.{Some, None}
use Rattle.std.specs.declared.option.Option.{Option}
use Rattle.order_meaning.specs.declared.Side.{Side}
use Rattle.pair_entries.specs.declared.entry.Entry.{Entry}
use Rattle.kept_entries.specs.Numbers.{is_side}
use Rattle.event_decisions.specs.Decide.{Repeat}
use Rattle.life_laws.specs.Forms.{Placed, Form, Again, Fill, placed}

-- administrative outs in a row: the number of the first, and its moment
pub record Run : Type 0 where
  pub from : ℕ
  pub at : ℕ

-- the gap fill for a run before this number
abbrev pub close_run : Option Run → ℕ → ℕ → List Form
close_run None n now = []
close_run (Some run) n now = Fill run.from n run.at now ∷ []

-- a run that goes on, or begins with the out of this number and moment
abbrev pub extend_run : Option Run → ℕ → ℕ → Option Run
extend_run None n at = Some (record { from = n; at = at })
extend_run (Some run) n at = Some run

-- what the out of this number adds behind a run: an administrative one joins the run
abbrev pub repeat_one : Option Run → ℕ → ℕ → Option Placed → List Form
repeat_one run n now None = []
repeat_one run n now (Some p) =
    if p.out.admin then [] else close_run run n now ++ Again p now ∷ []

abbrev pub run_after : Option Run → ℕ → Option Placed → Option Run
run_after run n None = run
run_after run n (Some p) = if p.out.admin then extend_run run n p.at else None

-- the forms of so many outs from number n on, behind a run
abbrev pub repeats : List Entry → Side → Option Run → (n now count : ℕ) → List Form
repeats entries side run n now zero = close_run run n now
repeats entries side run n now (suc count) =
    repeat_one run n now (placed side n entries)
    ++ repeats entries side (run_after run n (placed side n entries)) (n + 1) now count

-- WHAT IS SENT AGAIN of the outs of a side from a number to another
abbrev pub repeat_forms : List Entry → Side → (from to now : ℕ) → List Form
repeat_forms entries side from to now = repeats entries side None from now (to + 1 - from)

-- what an event sends again to a side
abbrev pub repeated_to : Side → List Entry → ℕ → Option Repeat → List Form
repeated_to side entries now None = []
repeated_to side entries now (Some r) =
    if is_side side r.side then repeat_forms entries side r.from r.to now else []
