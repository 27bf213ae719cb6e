-- Own: a drill; docs/DEFINITIONS.md, "The drill".
use Rattle.std.specs.Prelude.{◌≡◌, ℕ, List, [], length, Result, Ok, Err, ⊤, None}
use Rattle.std.specs.declared.option.Option.{Option}
use Rattle.std.specs.Io.KnownBytes.{Appends}
use Rattle.outside.specs.Bytes.{AppendsFront}
use Rattle.pair_entries.specs.declared.entry.Entry.{Entry}
use Rattle.drop_taps.specs.Shown.{TapState, HaveSeen}
use Rattle.replay_lines.specs.declared.printing.PrintError.{PrintError}
use Rattle.replay_lines.specs.declared.printing.PrintError.TheVariants.{OutputFault, NoMemory}
use Rattle.replay_lines.specs.ReplayLines.{drill_lines}
use Rattle.drill_day.specs.Drill.{drill_names, drill_heart, drill_events, kinds_of}
use Rattle.capture_replay.specs.Replay.{Played, IsPlayed, config_with, nothing, end_name}
use Rattle.capture_replay.specs.Replay.{numbers_left, WereAdded}

-- THE DAY OF A DRILL WAS LIVED, over an unborn disk, as a life of a capture is; and the taps saw
-- what was committed in it.
pub record IsDrilled {T : Type 0} (state : T → TapState) (first count : ℕ) (seen now : List T)
    (life : Played) : Type 0 where
  pub played : IsPlayed (config_with drill_names drill_heart None) (drill_events first count)
      nothing life
  pub saw : HaveSeen state seen now life.entries

-- what is printed of it
abbrev pub lines_of_drill : (first count : ℕ) → Played → List ℕ
lines_of_drill first count life = let kinds = kinds_of first count in
    drill_lines first count (kinds.filled, kinds.busted, kinds.corrected, kinds.rejected)
    (end_name life.end) (length life.entries) (numbers_left life.entries)

-- WHAT A DRILL DOES by its answer: at `Ok` its day was lived, and its lines are printed; where the
-- sink failed, a front of them is; for want of memory nothing is printed, and what the taps saw was
-- committed.
abbrev pub Drills : {T : Type 0} → (T → TapState) → (first count : ℕ) → (seen now : List T)
    → Result ⊤ PrintError → (old new : Option (List ℕ)) → Type 0
Drills state first count seen now (Ok value) old new = (life : Played)
    × IsDrilled state first count seen now life
    × Appends old new (lines_of_drill first count life)
Drills state first count seen now (Err OutputFault) old new = (life : Played)
    × IsDrilled state first count seen now life
    × AppendsFront old new (lines_of_drill first count life)
Drills state first count seen now (Err NoMemory) old new =
    (more : List Entry) × HaveSeen state seen now more × WereAdded drill_names [] more
    × (new ≡ old)
