-- Own: why an event ended a life, and what stands of it; docs/DEFINITIONS.md, "A life".
use Rattle.std.specs.Prelude.{◌≡◌, ℕ, ◌+◌, ◌≤◌, ◌++◌, List, length, Some, Ok, Err}
use Rattle.outside.specs.declared.disk.TheConstants.{MAX_DISK}
use Rattle.gate_log.specs.Records.{blocks}
use Rattle.pair_entries.specs.declared.entry.Entry.{Entry}
use Rattle.pair_entries.specs.Payload.{IsEntry}
use Rattle.kept_entries.specs.Days.{payload_behind}
use Rattle.pair_journal.specs.Calls.{payloads_of}
use Rattle.event_decisions.specs.Days.{new_day}
use Rattle.order_meaning.specs.declared.names.Names.{Names}
use Rattle.event_decisions.specs.Event.{Event}
use Rattle.event_decisions.specs.Decide.{Decision, Decides}
use Rattle.message_answers.specs.Answer.{Answers}
use Rattle.gateway_config.specs.declared.config.Config.{Config}
use Rattle.life_laws.specs.Happens.{World, Added, nothing, Fails}
use Rattle.gateway_life.specs.declared.end.LifeEnd.{LifeEnd}
use Rattle.gateway_life.specs.declared.end.LifeEnd.TheVariants as ends

-- WHY AN EVENT ENDED A LIFE, behind these entries of days before: its record had no room; a number
-- was spent; the disk or memory, of which nothing is said here
abbrev pub IsWhy : LifeEnd → Config → (past : List Entry) → World → Event → ℕ → Type 0
IsWhy ends.JournalFull config past before event now =
    (d : Decision) × (entry : Entry)
    × Decides Answers config.names config.window before.entries before.sessions event now (Ok d)
    × (d.entry ≡ Some entry) × IsEntry entry
    × (MAX_DISK ≤ length (blocks (payloads_of config.names (past ++ before.entries))) + 5
    + length (payload_behind (past ++ before.entries) entry))
IsWhy (ends.NumbersSpent side) config past before event now =
    Decides Answers config.names config.window before.entries before.sessions event now (Err side)
IsWhy ends.DiskFault config past before event now = Unit {0}
IsWhy ends.NoMemory config past before event now = Unit {0}
IsWhy end config past before event now = ⊥

-- WHAT STANDS OF AN EVENT that ended a life: only a disk fault may leave its entry, and a part of
-- what it sends
abbrev pub FailsBy : LifeEnd → Config → World → Event → ℕ → Added → List Entry → Type 0
FailsBy ends.DiskFault config before event now added entries =
    Fails Answers config.names config.window before event now added entries
FailsBy end config before event now added entries =
    (entries ≡ before.entries) × (added ≡ nothing)

-- WHY A NEW DAY ENDED A LIFE, behind these entries: its record had no room, or the disk or memory
abbrev pub IsWhyOfDay : LifeEnd → Names → (entries : List Entry) → (now : ℕ) → Type 0
IsWhyOfDay ends.JournalFull names entries now =
    MAX_DISK ≤ length (blocks (payloads_of names entries)) + 5
    + length (payload_behind entries (new_day now))
IsWhyOfDay ends.DiskFault names entries now = Unit {0}
IsWhyOfDay ends.NoMemory names entries now = Unit {0}
IsWhyOfDay end names entries now = ⊥
