-- Own: what a run of the program did, by the status with which it ended; docs/DECISIONS.md,
-- "Commands".
use Rattle.std.specs.Prelude.{◌≡◌, ℕ, ◌+◌, ◌≤◌, Bool, true, false, List, [], ◌++◌, length, take}
use Rattle.std.specs.Prelude.{◌⊎◌, Some, None, Result, IfSome, OnErr, ⊤}
use Rattle.std.specs.declared.option.Option.{Option}
use Rattle.std.specs.Io.KnownBytes.{Appends, Consumes, IsAtEnd}
use Rattle.outside.specs.Bytes.{AppendsFront}
use Rattle.outside.specs.Causes.{Rose}
use Rattle.frame_grammar.specs.declared.pieces.Rest.{Rest}
use Rattle.frame_grammar.specs.Cut.{Piece, ComeFirst, Cut}
use Rattle.frame_grammar.specs.Places.{place_after, EndsIn}
use Rattle.gateway_top.specs.Judge.{JudgesAll, end_said, unfinished}
use Rattle.gateway_top.specs.Task.{kind_of, stops, has_ended, first_of}
use Rattle.whole_input.specs.declared.reading.TheConstants.{MAX_INPUT, MAX_READ}
use Rattle.gateway_config.specs.declared.config.Config.{Config}
use Rattle.gateway_life.specs.declared.end.LifeEnd.{LifeEnd}
use Rattle.gateway_top.specs.declared.serve_error.ServeError.{ServeError}
use Rattle.gateway_top.specs.Serve.{Served}
use Rattle.journal_migrate.specs.declared.migrating.MigrateError.{MigrateError}
use Rattle.journal_migrate.specs.Migrating.{Migrates, PutsImage}
use Rattle.journal_show.specs.declared.journal_lines.ShowError.{ShowError}
use Rattle.journal_show.specs.JournalLines.{Shows, PutsLines}
use Rattle.capture_replay.specs.declared.error.ReplayError.{ReplayError}
use Rattle.replay_lines.specs.declared.printing.PrintError.{PrintError}
use Rattle.gateway_top.specs.declared.command.Command.{Command}
use Rattle.gateway_top.specs.declared.command.Command.TheVariants.{Help, Version, Stream}
use Rattle.gateway_top.specs.declared.command.Command.TheVariants.{Serve, Show, Migrate, Replay}
use Rattle.gateway_top.specs.declared.command.Command.TheVariants.{Drill}
use Rattle.gateway_top.specs.Status.{served_status, shown_status, migrated_status}
use Rattle.gateway_top.specs.Status.{replayed_status}
use Rattle.gateway_top.specs.Status.{drilled_status}
use Rattle.gateway_top.specs.declared.task.Task.{Task}
use Rattle.gateway_top.specs.declared.status.Status.{Status}
use Rattle.gateway_top.specs.declared.status.Status.TheVariants.{Done, Refused, Usage, InputFault}
use Rattle.gateway_top.specs.declared.status.Status.TheVariants.{OutputFault, NoMemory}
use Rattle.gateway_top.specs.declared.status.Status.TheVariants.{InputTooLong}

-- The task has judged every piece that stands whole in these bytes, and has not ended: of those
-- that it refused the first begins here, and this is what it said.
pub record Waits (task : Task) (bytes : List ℕ) (refused : Option ℕ) (said : List ℕ) : Type 0 where
  pub pieces : List Piece
  pub rest : List ℕ
  pub cut : Cut (kind_of task) bytes pieces rest
  pub judges : JudgesAll task [] pieces refused said
  pub going : has_ended task refused ≡ false

-- The task has ended at a piece that stands whole in these bytes, which is the first that it
-- refused and begins here. Before the last read, of 4,096 bytes at most, it had judged every piece
-- that stood whole, and had not ended.
pub record Stopped (task : Task) (bytes : List ℕ) (at : ℕ) (said : List ℕ) : Type 0 where
  pub pieces : List Piece
  pub left : List ℕ
  pub come : ComeFirst (kind_of task) bytes pieces left
  pub judges : JudgesAll task [] pieces (Some at) said
  pub stops : stops task ≡ true
  pub before : ℕ
  pub near : length bytes ≤ before + MAX_READ
  pub waited : (refused : Option ℕ) × (earlier : List ℕ)
      × Waits task (take before bytes) refused earlier

-- The task has judged every piece of these bytes, after which the input ends, and said how they
-- end. The first piece that it refused, or the unfinished one at the end, begins here.
pub record Finished (task : Task) (bytes : List ℕ) (found : Option ℕ) (said : List ℕ) : Type 0 where
  pub pieces : List Piece
  pub rest : List ℕ
  pub cut : Cut (kind_of task) bytes pieces rest
  pub refused : Option ℕ
  pub judged : List ℕ
  pub judges : JudgesAll task [] pieces refused judged
  pub going : has_ended task refused ≡ false
  pub end : Rest
  pub ends : EndsIn end (kind_of task) (place_after pieces) rest
  pub first : found ≡ first_of refused (unfinished end)
  pub joined : said ≡ judged ++ end_said task end

-- this is what the task said at some time of the run
abbrev pub Said : Task → List ℕ → Option (List ℕ) → List ℕ → Type 0
Said task bytes left said =
    ((refused : Option ℕ) × Waits task bytes refused said) ⊎
    (((at : ℕ) × Stopped task bytes at said) ⊎
    (IsAtEnd left × ((found : Option ℕ) × Finished task bytes found said)))

-- At this status of a task, which took these bytes of the input and left those, the sink went from
-- old to new.
abbrev pub Ran : Task → Status → List ℕ → Option (List ℕ) → Option (List ℕ) → Option (List ℕ)
    → Type 0
Ran task Done taken left old new =
    (length taken ≤ MAX_INPUT) × IsAtEnd left × ((said : List ℕ) × Finished task taken None said
    × Appends old new said)
Ran task (Refused at) taken left old new =
    (length taken ≤ MAX_INPUT) × ((said : List ℕ) ×
    (Stopped task taken at said ⊎ (IsAtEnd left × Finished task taken (Some at) said))
    × Appends old new said)
-- one byte more than an input may have was taken, and is not judged
Ran task InputTooLong taken left old new =
    (length taken ≡ MAX_INPUT + 1) × ((refused : Option ℕ) × (said : List ℕ) ×
    Waits task (take MAX_INPUT taken) refused said × Appends old new said)
Ran task InputFault taken left old new =
    (length taken ≤ MAX_INPUT) × ((refused : Option ℕ) × (said : List ℕ) ×
    Waits task taken refused said × Appends old new said)
Ran task OutputFault taken left old new =
    (length taken ≤ MAX_INPUT) × ((said : List ℕ) × Said task taken left said
    × AppendsFront old new said)
-- of the bytes that were taken, some at the end may not have been judged
Ran task NoMemory taken left old new =
    (length taken ≤ MAX_INPUT) × ((n : ℕ) × (refused : Option ℕ) × (said : List ℕ) ×
    Waits task (take n taken) refused said × Appends old new said)
Ran task status taken left old new = ⊥

-- At this status of a command that writes a text and reads no input, the sink went from old to new.
abbrev pub Wrote : Status → List ℕ → Option (List ℕ) → Option (List ℕ) → Type 0
Wrote Done text old new = Appends old new text
Wrote OutputFault text old new = AppendsFront old new text
Wrote status text old new = ⊥

-- What a command that writes a text, or does a task, did at a status: what it took of the input,
-- and what it put. The others have clauses of their own.
abbrev pub Does : List ℕ → List ℕ → Command → Status →
    Option (List ℕ) → Option (List ℕ) → Option (List ℕ) → Option (List ℕ) → Type 0
Does help version Help status left_old left old new = Wrote status help old new
Does help version Version status left_old left old new = Wrote status version old new
Does help version (Stream task) status left_old left old new =
    (taken : List ℕ) × Consumes left_old left taken × Ran task status taken left old new
Does help version command status left_old left old new = Unit {0}

-- what is read to the end of its input is done only once its source has told that end
abbrev pub ReadsToEnd : Command → Status → Bool → Type 0
ReadsToEnd (Stream task) Done ended = ended ≡ true
ReadsToEnd (Serve rounds) Done ended = ended ≡ true
ReadsToEnd Replay Done ended = ended ≡ true
ReadsToEnd command status ended = Unit {0}

-- ---- serve

-- this holds of the rounds that are to be served
abbrev pub IfServe : Option Command → (ℕ → Type 0) → Type 0
IfServe (Some (Serve rounds)) holds = holds rounds
IfServe command holds = Unit {0}

-- THE GATEWAY SERVED, by the status: what was taken of the input, and what is left; and the life
-- with the configuration that was read, where it began. Where none began, what a life would call is
-- untouched.
abbrev pub ServedBy : Status → List ℕ → Option (List ℕ) → (untouched : Type 0)
    → (Config → LifeEnd → Type 0) → Type 0
ServedBy status taken left untouched lived = (answer : Result LifeEnd ServeError)
    × (status ≡ served_status answer) × Served taken left answer lived × OnErr answer untouched

-- ---- show

abbrev pub IfShow : Option Command → Type 0 → Type 0
IfShow (Some Show) holds = holds
IfShow command holds = Unit {0}

-- THE JOURNAL WAS SHOWN, by the status: lines of a journal were put, and those of the one on the
-- disk where that tells what it holds.
abbrev pub ShownBy : Status → Option (List ℕ) → Option (List ℕ) → Option (List ℕ) → Type 0
ShownBy status told old new = (answer : Result ⊤ ShowError)
    × (status ≡ shown_status answer) × PutsLines answer old new
    × IfSome told (λ bytes. Shows bytes answer old new)

-- ---- migrate

abbrev pub IfMigrate : Option Command → Type 0 → Type 0
IfMigrate (Some Migrate) holds = holds
IfMigrate command holds = Unit {0}

-- THE JOURNAL WAS MIGRATED, by the status: the image of a journal was put, and that of the one on
-- the disk where that tells what it holds.
abbrev pub MigratedBy : Status → Option (List ℕ) → Option (List ℕ) → Option (List ℕ) → Type 0
MigratedBy status told old new = (answer : Result ⊤ MigrateError)
    × (status ≡ migrated_status answer) × PutsImage answer old new
    × IfSome told (λ bytes. Migrates bytes answer old new)

-- ---- replay and drill

abbrev pub IfReplay : Option Command → Type 0 → Type 0
IfReplay (Some Replay) holds = holds
IfReplay command holds = Unit {0}

-- THE CAPTURE OF THE INPUT WAS REPLAYED, by the status.
abbrev pub ReplayedBy : Status → (Result ⊤ ReplayError → Type 0) → Type 0
ReplayedBy status replayed =
    (answer : Result ⊤ ReplayError) × (status ≡ replayed_status answer) × replayed answer

-- this holds of the two numbers of the drill
abbrev pub IfDrill : Option Command → (ℕ → ℕ → Type 0) → Type 0
IfDrill (Some (Drill first count)) holds = holds first count
IfDrill command holds = Unit {0}

-- THE DAY WAS DRILLED, by the status.
abbrev pub DrilledBy : Status → (Result ⊤ PrintError → Type 0) → Type 0
DrilledBy status drilled =
    (answer : Result ⊤ PrintError) × (status ≡ drilled_status answer) × drilled answer

-- ---- faults

-- A FAULT OF A DEVICE IS TOLD: the status of such a fault comes only where the count of faults rose,
-- and at each other status it stands still.
abbrev pub TellsFault : (told : Type 0) → (before now : ℕ) → Type 0
TellsFault told before now = (told → Rose before now) × ((told → ⊥) → now ≡ before)
