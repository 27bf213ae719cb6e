-- Own: what a tap has seen and counted, and when it fails; docs/DEFINITIONS.md, "Taps and lines".
use Rattle.std.specs.Prelude.{◌≡◌, ℕ, ◌+◌, ◌-◌, ◌^◌, ◌≤◌, min, Bool, true, false, ◌&&◌, ◌||◌}
use Rattle.std.specs.Prelude.{List, [], ◌∷◌, ◌++◌, codes, bytes_eq, count_by, is_some, option_map}
use Rattle.std.specs.Prelude.{Result, Ok, Err}
use Rattle.std.specs.declared.option.Option.{Option}
use Rattle.outside.specs.Causes.{next_count, Rose}
use Rattle.order_meaning.specs.declared.Side.TheVariants.{Client, Venue}
use Rattle.pair_entries.specs.declared.entry.Out.{Out}
use Rattle.pair_entries.specs.declared.entry.Entry.{Entry}
use Rattle.kept_entries.specs.Numbers.{is_side}
use Rattle.kept_entries.specs.Given.{source_in}
use Rattle.drop_taps.specs.declared.tap.Seen.{Seen}
use Rattle.drop_taps.specs.declared.tap.TapFailed.{TapFailed}
use Rattle.drop_taps.specs.declared.tap.TapFailed.TheVariants.{Fault}

-- the entries seen, after an entry was shown: with it at `Ok`, the same at `Err`
abbrev pub seen_after : {T E : Type 0}
    → Result T E → Entry → Option (List Entry) → Option (List Entry)
seen_after (Ok value) entry told = option_map (λ entries. entries ++ entry ∷ []) told
seen_after (Err error) entry told = told

-- an out of an entry translates the message that the entry took
abbrev pub is_translated : Entry → Out → Bool
is_translated entry out = is_some (source_in (record { entry = entry; out = out }))

-- a translated D, F, G or H
abbrev pub is_request : Entry → Out → Bool
is_request entry out = is_side out.side Venue && is_translated entry out

-- a translated 8 or 9
abbrev pub is_report : Entry → Out → Bool
is_report entry out = is_side out.side Client && is_translated entry out

-- a Reject or a Business Message Reject
abbrev pub is_refusal : Out → Bool
is_refusal out = bytes_eq out.msg_type (codes "3") || bytes_eq out.msg_type (codes "j")

-- a count after so many more, up to the last value of 64 bits, where it stands still
abbrev pub grown : ℕ → ℕ → ℕ
grown count by = min (count + by) (2 ^ 64 - 1)

-- entries alone are counted
abbrev pub entries_alone : ℕ → Seen
entries_alone entries = record { entries = entries; requests = 0; reports = 0; refusals = 0 }

-- all four are counted
abbrev pub all_counted : Entry → Seen → Seen
all_counted entry tally = record {
  entries = next_count tally.entries;
  requests = grown tally.requests (count_by (is_request entry) entry.outs);
  reports = grown tally.reports (count_by (is_report entry) entry.outs);
  refusals = grown tally.refusals (count_by is_refusal entry.outs);
}

-- what a tap counted, after an entry was shown; one that does not count all counts entries
abbrev pub tally_after : {T E : Type 0} → Bool → Result T E → Entry → Seen → Seen
tally_after true (Ok value) entry tally = all_counted entry tally
tally_after false (Ok value) entry tally = record tally { entries = next_count tally.entries }
tally_after counts_all (Err error) entry tally = tally

-- a fault comes only where the count of faults rose, and else the count stands still
abbrev pub HasTapCause : {T : Type 0} → ℕ → ℕ → Result T TapFailed → Type 0
HasTapCause before now (Err Fault) = (before ≤ now) × Rose before now
HasTapCause before now answer = now ≡ before

-- the count of faults after this answer: one more at a fault
abbrev pub faults_after : {T : Type 0} → Result T TapFailed → ℕ → ℕ
faults_after (Err Fault) faults = next_count faults
faults_after answer faults = faults
