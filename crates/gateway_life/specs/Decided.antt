-- Inside: what an engine has decided of an event of a side, or of a new day, and what is left where
-- it was not committed.
use Rattle.std.specs.Prelude.{◌≡◌, ℕ, [], List, ◌++◌, Some, None, Ok}
use Rattle.std.specs.declared.option.Option.{Option}
use Rattle.std.specs.Option.{option_to_list}
use Rattle.pair_entries.specs.declared.entry.Entry.{Entry}
use Rattle.kept_entries.specs.Days.{last_day, past_of}
use Rattle.event_decisions.specs.Days.{new_day}
use Rattle.event_decisions.specs.Decide.{Decides}
use Rattle.event_decisions.specs.Event.{Event}
use Rattle.message_answers.specs.Answer.{Answers}
use Rattle.gateway_core.specs.State.{loaded, sessions_in}
use Rattle.gateway_life.specs.declared.end.LifeEnd.{LifeEnd}
use Rattle.gateway_life.specs.declared.engine.Made.{Made}
use Rattle.gateway_life.specs.State.{EngineState}
use Rattle.gateway_life.specs.Fails.{IsWhy, IsWhyOfDay}
use Rattle.gateway_life.specs.Ready.{Behind, made_of, world_of}
use Rattle.gateway_life.specs.Rounds.{MayTurn}
use Rattle.gateway_life.specs.Stepped.{MayStand}

-- what an event of a side decides, on the same day
pub record DecidedOn (old new : EngineState) (made : Made) (event : Event) (now : ℕ) : Type 0 where
  pub decides : Decides Answers old.core.config.names old.core.config.window
      (last_day old.journal.entries) (sessions_in old.core) event now (Ok (made_of made new.core))
  pub today : last_day new.journal.entries
      ≡ last_day old.journal.entries ++ option_to_list made.entry
  pub past : past_of new.journal.entries ≡ past_of old.journal.entries

-- a new day has its entry, and the core of no entries
abbrev pub Decided : (old new : EngineState) → Made → Option Event → ℕ → Type 0
Decided old new made (Some event) now = DecidedOn old new made event now
Decided old new made None now =
    (made.entry ≡ Some (new_day now)) × (new.core ≡ loaded old.core.config [])

-- what may stand where it was not committed
abbrev pub MayHold : LifeEnd → EngineState → Option Event → ℕ → List Entry → Type 0
MayHold end old (Some event) now entries = Behind (past_of old.journal.entries)
    (MayStand end old.core.config (world_of old) event now) entries
MayHold end old None now entries = MayTurn end old.journal.entries now entries

-- and why it was not
abbrev pub IsWhyNot : LifeEnd → EngineState → Option Event → ℕ → Type 0
IsWhyNot end old (Some event) now =
    IsWhy end old.core.config (past_of old.journal.entries) (world_of old) event now
IsWhyNot end old None now = IsWhyOfDay end old.core.config.names old.journal.entries now
