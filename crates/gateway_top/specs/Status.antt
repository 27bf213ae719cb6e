-- Own: the exit code and the printed line of each status; docs/DECISIONS.md, "Commands".
use Rattle.std.specs.Prelude.{ℕ, List, [], ◌∷◌, ◌++◌, codes, Result, Ok, Err, ⊤}
use Rattle.std.specs.Fmt.{decimal}
use Rattle.order_meaning.specs.declared.Side.TheVariants.{Client, Venue}
use Rattle.gateway_config.specs.declared.config.ConfigKey.{ConfigKey}
use Rattle.gateway_config.specs.declared.config.ConfigKey.TheVariants as keys
use Rattle.gateway_life.specs.declared.end.LifeEnd.{LifeEnd}
use Rattle.gateway_life.specs.declared.end.LifeEnd.TheVariants as lives
use Rattle.gateway_top.specs.declared.serve_error.ServeError.{ServeError}
use Rattle.gateway_top.specs.declared.serve_error.ServeError.TheVariants as serves
use Rattle.journal_migrate.specs.declared.migrating.MigrateError.{MigrateError}
use Rattle.journal_migrate.specs.declared.migrating.MigrateError.TheVariants as migrates
use Rattle.journal_show.specs.declared.journal_lines.ShowError.{ShowError}
use Rattle.journal_show.specs.declared.journal_lines.ShowError.TheVariants as shows
use Rattle.capture_replay.specs.declared.error.ReplayError.{ReplayError}
use Rattle.capture_replay.specs.declared.error.ReplayError.TheVariants as replays
use Rattle.replay_lines.specs.declared.printing.PrintError.{PrintError}
use Rattle.replay_lines.specs.declared.printing.PrintError.TheVariants as prints
use Rattle.gateway_top.specs.Line.{LF}
use Rattle.gateway_top.specs.declared.status.Status.{Status}
use Rattle.gateway_top.specs.declared.status.Status.TheVariants.{Done, Refused, Usage, InputFault}
use Rattle.gateway_top.specs.declared.status.Status.TheVariants.{OutputFault, NoMemory}
use Rattle.gateway_top.specs.declared.status.Status.TheVariants.{InputTooLong, ConfigRefused}
use Rattle.gateway_top.specs.declared.status.Status.TheVariants.{DiskFault, JournalRefused}
use Rattle.gateway_top.specs.declared.status.Status.TheVariants.{NamesDiffer, JournalFull}
use Rattle.gateway_top.specs.declared.status.Status.TheVariants.{NumbersSpent, CaptureRefused}

abbrev pub code_of : Status → ℕ
code_of Done = 0
code_of (Refused at) = 1
code_of Usage = 2
code_of (ConfigRefused key) = 3
code_of InputFault = 4
code_of OutputFault = 5
code_of DiskFault = 6
code_of (JournalRefused at) = 7
code_of (NamesDiffer kept given) = 7
code_of JournalFull = 8
code_of (NumbersSpent side) = 9
code_of (CaptureRefused line) = 10
code_of NoMemory = 11
code_of InputTooLong = 12

-- the name of a key of the configuration
abbrev pub key_name : ConfigKey → List ℕ
key_name keys.NotToml = codes "NotToml"
key_name keys.ClientOur = codes "ClientOur"
key_name keys.ClientPeer = codes "ClientPeer"
key_name keys.VenueOur = codes "VenueOur"
key_name keys.VenuePeer = codes "VenuePeer"
key_name keys.VenueHeart = codes "VenueHeart"
key_name keys.Window = codes "Window"
key_name keys.Reset = codes "Reset"
key_name keys.Unknown = codes "Unknown"

abbrev pub status_line : Status → List ℕ
status_line Done = codes "done"
status_line (Refused at) = codes "refused at " ++ decimal at
status_line Usage = codes "usage"
status_line (ConfigRefused key) = codes "configuration " ++ key_name key
status_line InputFault = codes "input fault"
status_line OutputFault = codes "output fault"
status_line DiskFault = codes "disk fault"
status_line (JournalRefused at) = codes "journal refused at " ++ decimal at
status_line (NamesDiffer kept given) = codes "journal has other names"
status_line JournalFull = codes "journal full"
status_line (NumbersSpent Client) = codes "numbers spent client"
status_line (NumbersSpent Venue) = codes "numbers spent venue"
status_line (CaptureRefused line) = codes "capture line " ++ decimal line
status_line NoMemory = codes "out of memory"
status_line InputTooLong = codes "input too long"

-- what goes to standard error at the end: nothing where the command was done, else the program's
-- name and the status
abbrev pub last_words : Status → List ℕ
last_words Done = []
last_words status = codes "fixgate: " ++ status_line status ++ LF ∷ []

-- how the program ends: what it exits with, and what it prints to standard error
pub record End : Type 0 where
  pub code : ℕ
  pub printed : List ℕ

abbrev pub end_of : Status → End
end_of status = record { code = code_of status; printed = last_words status }

-- ---- the status of what a command answers

abbrev pub status_of_life : LifeEnd → Status
status_of_life lives.Done = Done
status_of_life lives.DiskFault = DiskFault
status_of_life (lives.JournalRefused at) = JournalRefused at
status_of_life (lives.NamesDiffer kept given) = NamesDiffer kept given
status_of_life lives.JournalFull = JournalFull
status_of_life (lives.NumbersSpent side) = NumbersSpent side
status_of_life lives.NoMemory = NoMemory

abbrev pub status_of_error : ServeError → Status
status_of_error serves.InputFault = InputFault
status_of_error serves.InputTooLong = InputTooLong
status_of_error (serves.ConfigRefused key) = ConfigRefused key
status_of_error serves.NoMemory = NoMemory

abbrev pub status_of_show : ShowError → Status
status_of_show shows.DiskFault = DiskFault
status_of_show (shows.JournalRefused at) = JournalRefused at
status_of_show shows.OutputFault = OutputFault
status_of_show shows.NoMemory = NoMemory

abbrev pub status_of_migrate : MigrateError → Status
status_of_migrate migrates.DiskFault = DiskFault
status_of_migrate migrates.OutputFault = OutputFault
status_of_migrate (migrates.Refused at) = JournalRefused at
status_of_migrate migrates.Full = JournalFull
status_of_migrate migrates.NoMemory = NoMemory

abbrev pub status_of_replay : ReplayError → Status
status_of_replay replays.InputFault = InputFault
status_of_replay replays.InputTooLong = InputTooLong
status_of_replay (replays.CaptureRefused line) = CaptureRefused line
status_of_replay replays.OutputFault = OutputFault
status_of_replay replays.NoMemory = NoMemory

abbrev pub status_of_print : PrintError → Status
status_of_print prints.OutputFault = OutputFault
status_of_print prints.NoMemory = NoMemory

-- of `serve`
abbrev pub served_status : Result LifeEnd ServeError → Status
served_status (Ok end) = status_of_life end
served_status (Err error) = status_of_error error

-- of `show`
abbrev pub shown_status : Result ⊤ ShowError → Status
shown_status (Ok done) = Done
shown_status (Err error) = status_of_show error

-- of `migrate`
abbrev pub migrated_status : Result ⊤ MigrateError → Status
migrated_status (Ok done) = Done
migrated_status (Err error) = status_of_migrate error

-- of `replay`
abbrev pub replayed_status : Result ⊤ ReplayError → Status
replayed_status (Ok done) = Done
replayed_status (Err error) = status_of_replay error

-- of `drill`
abbrev pub drilled_status : Result ⊤ PrintError → Status
drilled_status (Ok done) = Done
drilled_status (Err error) = status_of_print error
