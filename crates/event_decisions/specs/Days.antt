-- Own: when a session day begins, and its entry; docs/DECISIONS.md, "Session days".
use Rattle.std.specs.Prelude.{ℕ, ◌+◌, ◌-◌, ◌*◌, ◌/◌, nat_lt, Bool, true, false, [], Some, None}
use Rattle.std.specs.declared.option.Option.{Option}
use Rattle.pair_entries.specs.declared.entry.Entry.{Entry}
use Rattle.kept_entries.specs.Numbers.{first_numbers}

-- the milliseconds of a minute and of a day
abbrev pub minute_ms : ℕ
minute_ms = 60000

abbrev pub day_ms : ℕ
day_ms = 86400000

-- the session day of a moment, counted over all, where days begin at this minute of the UTC day
abbrev pub session_day : (minute now : ℕ) → ℕ
session_day minute now = (now + day_ms - minute * minute_ms) / day_ms

-- A NEW DAY IS DUE at a moment, where the last one began at another: days begin at a minute, and
-- one did since. Without an entry none is.
abbrev pub is_due : (minute began : Option ℕ) → (now : ℕ) → Bool
is_due None began now = false
is_due (Some minute) None now = false
is_due (Some minute) (Some began) now =
    nat_lt (session_day minute began) (session_day minute now)

-- the entry with which a day begins
abbrev pub new_day : (now : ℕ) → Entry
new_day now = record { at = now; reset = true; took = None; next = first_numbers; outs = [] }
