-- Inside: what a commit leaves.
use Rattle.std.specs.Prelude.{◌≡◌, ◌⊎◌, ◌+◌, ◌≤◌, List, ◌++◌, length, Some}
use Rattle.std.specs.declared.option.Option.{Option}
use Rattle.std.specs.Option.{option_to_list}
use Rattle.outside.specs.declared.disk.TheConstants.{MAX_DISK}
use Rattle.gate_log.specs.Records.{blocks}
use Rattle.pair_journal.specs.declared.error.JournalError.{JournalError}
use Rattle.pair_journal.specs.declared.error.JournalError.TheVariants as errors
use Rattle.pair_entries.specs.declared.entry.Entry.{Entry}
use Rattle.pair_entries.specs.Payload.{IsEntry}
use Rattle.kept_entries.specs.Days.{payload_behind}
use Rattle.pair_journal.specs.State.{JournalState}
use Rattle.pair_journal.specs.Calls.{payloads_of}

-- the entries from before a commit, and after a disk fault those or with the new one
abbrev pub OldOrNew : JournalError → List Entry → Option Entry → List Entry → Type 0
OldOrNew errors.DiskFault before entry found =
    (found ≡ before) ⊎ (found ≡ before ++ option_to_list entry)
OldOrNew error before entry found = found ≡ before

-- a commit fails by the disk, or since the record has no room
abbrev pub IsFull : JournalState → Option Entry → JournalError → Type 0
IsFull journal entry errors.DiskFault = Unit {0}
IsFull journal entry errors.Full = (e : Entry) × (entry ≡ Some e) × IsEntry e
    × (MAX_DISK ≤ length (blocks (payloads_of journal.names journal.entries)) + 5
    + length (payload_behind journal.entries e))
IsFull journal entry error = ⊥
