-- Inside: what is known of a life that was lived.
use Rattle.std.specs.Prelude.{◌≡◌, ℕ, List, [], ◌∷◌, ◌++◌, length, Some}
use Rattle.std.specs.Io.KnownBytes.{Appends}
use Rattle.std.specs.declared.option.Option.{Option}
use Rattle.pair_entries.specs.declared.entry.Entry.{Entry}
use Rattle.wires.specs.Wire.{WireCall}
use Rattle.message_answers.specs.Answer.{Answers}
use Rattle.kept_entries.specs.Days.{days_of}
use Rattle.life_laws.specs.Days.{DayEnded, DayLeft, LeavesDays}
use Rattle.gateway_config.specs.declared.config.Config.{Config}
use Rattle.gateway_life.specs.declared.end.LifeEnd.{LifeEnd}
use Rattle.gateway_life.specs.Life.{Done, IsJournal}
use Rattle.gateway_life.specs.Laws.{AreShown}
use Rattle.gateway_life.specs.Watched.{WereCommitted}
use Rattle.drop_taps.specs.Shown.{TapState, HaveSeen}
use Rattle.capture_text.specs.declared.capture.Capture.{Capture}
use Rattle.capture_text.specs.declared.capture.Event.{Event}
use Rattle.capture_replay.specs.Replay.{Left, Played, IsPlayed, ArePlayed, after, nothing}
use Rattle.capture_replay.specs.Replay.{config_of, lives_lines}
use Rattle.capture_replay.specs.Rounds.{moment_after}

-- it is a life of a capture, both wires tell what was done, and the taps saw what was committed
pub record IsLived {T : Type 0} (state : T → TapState) (config : Config) (lines : List Event)
    (before : Left) (seen now : List T) (client venue : Option (List WireCall)) (end : LifeEnd)
    (image : List ℕ) : Type 0 where
  pub did : Done
  pub days : List DayEnded
  pub left : DayLeft
  pub entries : List Entry
  pub client_told : client ≡ Some did.client
  pub venue_told : venue ≡ Some did.venue
  pub played : IsPlayed config lines before (record {
    did = did;
    days = days;
    left = left;
    end = end;
    image = image;
    entries = entries;
    moment = moment_after before.moment lines;
  })
  pub more : List Entry
  pub committed : WereCommitted end (before.entries ++ more) entries
  pub saw : HaveSeen state seen now more

-- such a life is lived over whatever lives before it have left, with their clock at this moment
abbrev pub LivesOn : {T : Type 0} → (T → TapState) → Config → List Event → (from : ℕ)
    → (bytes : List ℕ) → (seen now : List T) → (client venue : Option (List WireCall)) → LifeEnd
    → List ℕ → Type 0
LivesOn state config lines from bytes seen now client venue end image = (before : Left)
    → before.moment ≡ from → IsJournal config.names before.entries bytes
    → AreShown config.names
    → LeavesDays Answers config.names (days_of before.entries) before.client before.venue
    → IsLived state config lines before seen now client venue end image

-- what is left after lives
abbrev pub left_after : Left → List Played → Left
left_after left [] = left
left_after left (life ∷ played) = left_after (after left life) played

-- A REPLAY SO FAR: so many lives were played and printed, the clock is at this moment, and this
-- image was left.
pub record SoFar {T : Type 0} (state : T → TapState) (capture : Capture) (count clock : ℕ)
    (seen now : List T) (image : List ℕ) (old new : Option (List ℕ)) : Type 0 where
  pub played : List Played
  pub all : length played ≡ count
  pub are : ArePlayed state (config_of capture) nothing seen capture.lives played now
  pub journal : IsJournal capture.names (left_after nothing played).entries image
  pub leaves : LeavesDays Answers capture.names (days_of (left_after nothing played).entries)
      (left_after nothing played).client (left_after nothing played).venue
  pub moment : (left_after nothing played).moment ≡ clock
  pub put : Appends old new (lives_lines 1 played)
