-- Own: the session days of a journal; docs/DEFINITIONS.md, "Disk and journal".
use Rattle.std.specs.Prelude.{ℕ, ◌+◌, ◌-◌, List, [], ◌∷◌, ◌++◌, fold, take}
use Rattle.std.specs.Prelude.{length, Some, None}
use Rattle.std.specs.Prelude.{if◌then◌else◌}
use Rattle.std.specs.Option.{option_or}
use Rattle.std.specs.declared.option.Option.{Option}
use Rattle.pair_entries.specs.declared.entry.Entry.{Entry}
use Rattle.pair_entries.specs.Payload.{payload_on}

-- the entries of the days that have ended, and of the present one; that with which a day begins is
-- of none
pub record Days : Type 0 where
  pub ended : List (List Entry)
  pub present : List Entry

-- the present day ends
abbrev pub day_ended : Days → Days
day_ended days = record { ended = days.ended ++ days.present ∷ []; present = [] }

-- it goes on with an entry
abbrev pub day_longer : Days → Entry → Days
day_longer days entry = record { ended = days.ended; present = days.present ++ entry ∷ [] }

abbrev pub day_with : Days → Entry → Days
day_with days entry = if entry.reset then day_ended days else day_longer days entry

abbrev pub no_days : Days
no_days = record { ended = []; present = [] }

-- THE DAYS OF A JOURNAL
abbrev pub days_of : List Entry → Days
days_of entries = fold day_with no_days entries

-- the entries of the last day
abbrev pub last_day : List Entry → List Entry
last_day entries = (days_of entries).present

-- the entries before those of the last day, up to the one with which it began
abbrev pub past_of : List Entry → List Entry
past_of entries = take (length entries - length (last_day entries)) entries

-- when the last day began: with its own entry, or with the first of the journal
abbrev pub begun_with : Option ℕ → Entry → Option ℕ
begun_with at entry = if entry.reset then Some entry.at else option_or at (Some entry.at)

abbrev pub day_at : List Entry → Option ℕ
day_at entries = fold begun_with None entries

-- ---- as it is written

-- the day of an entry behind those of a day, which is the number of days that began up to it
abbrev pub day_after : (day : ℕ) → Entry → ℕ
day_after day entry = if entry.reset then day + 1 else day

abbrev pub day_number : List Entry → ℕ
day_number entries = fold day_after 0 entries

-- the payloads of entries behind those of a day
abbrev pub dated : (day : ℕ) → List Entry → List (List ℕ)
dated day [] = []
dated day (entry ∷ entries) =
    payload_on (day_after day entry) entry ∷ dated (day_after day entry) entries

-- the payload of an entry behind these
abbrev pub payload_behind : List Entry → Entry → List ℕ
payload_behind entries entry = payload_on (day_after (day_number entries) entry) entry
