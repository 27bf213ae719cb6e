-- Own: the lives of a capture, and what is printed of them; docs/DEFINITIONS.md, "A replay".
use Rattle.std.specs.Prelude.{◌≡◌, ℕ, ◌+◌, true, false, List, [], ◌∷◌, ◌++◌, length, filter, codes}
use Rattle.std.specs.Prelude.{◌⊎◌, Result, Ok, Err, ⊤}
use Rattle.std.specs.declared.option.Option.{Option}
use Rattle.std.specs.Option.{option_to_list}
use Rattle.std.specs.Io.KnownBytes.{Appends}
use Rattle.outside.specs.Bytes.{AppendsFront}
use Rattle.order_meaning.specs.declared.Side.TheVariants.{Client, Venue}
use Rattle.order_meaning.specs.declared.names.Names.{Names}
use Rattle.pair_entries.specs.declared.entry.Entry.{Entry}
use Rattle.pair_entries.specs.Payload.{Next}
use Rattle.kept_entries.specs.Numbers.{first_numbers, numbers_after}
use Rattle.wires.specs.Wire.{Came}
use Rattle.wires.specs.Script.{Plays}
use Rattle.wires.specs.Clock.{moments_given}
use Rattle.message_answers.specs.Answer.{Answers}
use Rattle.kept_entries.specs.Days.{days_of, last_day}
use Rattle.life_laws.specs.Days.{DayEnded, DayLeft, Transcript, LeavesDays, transcript_after}
use Rattle.gateway_config.specs.declared.config.Config.{Config}
use Rattle.gateway_life.specs.declared.end.LifeEnd.{LifeEnd}
use Rattle.gateway_life.specs.declared.end.LifeEnd.TheVariants as ends
use Rattle.gateway_life.specs.Life.{Done, IsJournal}
use Rattle.gateway_life.specs.Laws.{AreTakenDays}
use Rattle.gateway_life.specs.Lived.{IsLeft}
use Rattle.gateway_life.specs.Watched.{WereCommitted}
use Rattle.drop_taps.specs.Shown.{TapState, HaveSeen}
use Rattle.capture_text.specs.declared.capture.Capture.{Capture}
use Rattle.capture_text.specs.declared.capture.Event.{Event}
use Rattle.capture_text.specs.Capture.{stop_of}
use Rattle.replay_lines.specs.declared.printing.PrintError.{PrintError}
use Rattle.replay_lines.specs.Pieces.{pieces_of}
use Rattle.replay_lines.specs.ReplayLines.{life_lines, last_lines}
use Rattle.capture_replay.specs.Rounds.{is_round, script_of, moment_after, moments_from}
use Rattle.capture_replay.specs.Stops.{may_end}

-- how the gateway of a capture is set up: SendingTime may be 120 seconds from the present moment
abbrev pub config_with : Names → (heart : ℕ) → (reset : Option ℕ) → Config
config_with names heart reset =
    record { names = names; heart = heart; window = 120; reset = reset }

abbrev pub config_of : Capture → Config
config_of capture = config_with capture.names capture.heart capture.reset

-- what lives have left: the entries of the journal, what was read and written on each connection of
-- both sides by days, and the moment that the clock says
pub record Left : Type 0 where
  pub entries : List Entry
  pub client : Transcript
  pub venue : Transcript
  pub moment : ℕ

-- before the first life
abbrev pub nothing : Left
nothing = record {
  entries = [];
  client = record { ended = []; present = [] };
  venue = record { ended = []; present = [] };
  moment = 0;
}

-- a life: what was done in it, the days that ended in it and the one that it left, how it ended,
-- the bytes that it left on the disk, their entries, and the moment that the clock says behind it
pub record Played : Type 0 where
  pub did : Done
  pub days : List DayEnded
  pub left : DayLeft
  pub end : LifeEnd
  pub image : List ℕ
  pub entries : List Entry
  pub moment : ℕ

-- what is left after a life
abbrev pub after : Left → Played → Left
after left life = record {
  entries = life.entries;
  client = transcript_after Client left.client life.days life.left;
  venue = transcript_after Venue left.venue life.days life.left;
  moment = life.moment;
}

-- A LIFE OF A CAPTURE, over what lives before it have left. Its wires play what its lines let come,
-- and its clock, which runs on from the lives before, gives their moments. What it leaves goes on
-- from what was there, and accounts, day by day, for all that was read and written, in it and
-- before: whatever of it arrives, each side takes the beginning of what was committed to it on that
-- day, each message once and in order.
pub record IsPlayed (config : Config) (lines : List Event) (before : Left) (life : Played)
    : Type 0 where
  pub client : (left : List Came) × Plays false (script_of Client lines) life.did.client left
  pub venue : (left : List Came) × Plays false (script_of Venue lines) life.did.venue left
  pub moments : (asked : ℕ)
      × (life.did.moments ≡ moments_given (moments_from before.moment lines) asked)
  pub is_left : IsLeft life.end config before.entries (length (filter is_round lines)) life.did
      life.days life.left life.image life.entries
  pub leaves : LeavesDays Answers config.names (days_of life.entries)
      (after before life).client (after before life).venue
  pub taken : AreTakenDays config.names (days_of life.entries)
      (after before life).client (after before life).venue
  pub moment : life.moment ≡ moment_after before.moment lines
  pub whole : may_end (stop_of lines) life.end ≡ true

-- The first lives of a capture, one after another, over what was left before. The taps saw what
-- each of them committed, in order.
abbrev pub ArePlayed : {T : Type 0} → (T → TapState) → Config → Left → (seen : List T)
    → List (List Event) → List Played → (now : List T) → Type 0
ArePlayed state config left seen lives [] now = now ≡ seen
ArePlayed state config left seen [] (life ∷ played) now = ⊥
ArePlayed {T} state config left seen (lines ∷ lives) (life ∷ played) now =
    IsPlayed config lines left life × (between : List T) × (more : List Entry)
    × WereCommitted life.end (left.entries ++ more) life.entries × HaveSeen state seen between more
    × ArePlayed state config (after left life) between lives played now

-- ---- what is printed

-- the variant's name
abbrev pub end_name : LifeEnd → List ℕ
end_name ends.Done = codes "Done"
end_name ends.DiskFault = codes "DiskFault"
end_name (ends.JournalRefused at) = codes "JournalRefused"
end_name (ends.NamesDiffer kept given) = codes "NamesDiffer"
end_name ends.JournalFull = codes "JournalFull"
end_name (ends.NumbersSpent side) = codes "NumbersSpent"
end_name ends.NoMemory = codes "NoMemory"

-- the lines of lives, numbered from this number on
abbrev pub lives_lines : ℕ → List Played → List ℕ
lives_lines number [] = []
lives_lines number (life ∷ played) =
    life_lines number (pieces_of life.did.client) (pieces_of life.did.venue) (end_name life.end)
    ++ lives_lines (number + 1) played

-- the entries that the last of them left
abbrev pub entries_left : List Entry → List Played → List Entry
entries_left entries [] = entries
entries_left entries (life ∷ played) = entries_left life.entries played

-- the next numbers behind entries: those of the last day
abbrev pub numbers_left : List Entry → Next
numbers_left entries = numbers_after first_numbers (last_day entries)

-- all that is printed of these lives
abbrev pub replay_lines : List Played → List ℕ
replay_lines played = lives_lines 1 played
    ++ last_lines (length (entries_left [] played))
    (numbers_left (entries_left [] played))

-- What is printed of these lives where a replay is broken off: a front of their lines, and of those
-- of the journal only where they are all lives of the capture.
abbrev pub PrintsFront : Capture → List Played → (old new : Option (List ℕ)) → Type 0
PrintsFront capture played old new = AppendsFront old new (lives_lines 1 played)
    ⊎ ((length played ≡ length capture.lives) × AppendsFront old new (replay_lines played))

-- These entries were committed behind those: some bytes are the journal of both, and perhaps of one
-- more, which a disk fault may leave.
abbrev pub WereAdded : Names → (before more : List Entry) → Type 0
WereAdded names before more = (last : Option Entry) × (image : List ℕ)
    × IsJournal names (before ++ more ++ option_to_list last) image

-- WHAT A REPLAY DOES by its answer: at `Ok` all lives of the capture were played, and all is
-- printed; at an error some were played, and a front of what is printed of them. What the taps saw
-- besides was committed behind what these have left.
abbrev pub Replays : {T : Type 0} → (T → TapState) → Capture → (seen now : List T)
    → Result ⊤ PrintError → (old new : Option (List ℕ)) → Type 0
Replays state capture seen now (Ok value) old new =
    (played : List Played) × (length played ≡ length capture.lives)
    × ArePlayed state (config_of capture) nothing seen capture.lives played now
    × Appends old new (replay_lines played)
Replays {T} state capture seen now (Err error) old new =
    (played : List Played) × (between : List T) × (more : List Entry)
    × ArePlayed state (config_of capture) nothing seen capture.lives played between
    × HaveSeen state between now more × WereAdded capture.names (entries_left [] played) more
    × PrintsFront capture played old new
