-- Inside: what a part of a life keeps and leaves, whatever it dealt with, between two states of it.
use Rattle.std.specs.Prelude.{◌≡◌, ℕ, List, Result, OnOk, IfErr, is_some}
use Rattle.std.specs.declared.option.Option.{Option}
use Rattle.outside.specs.Disk.{HasOneImage}
use Rattle.wires.specs.Wire.{WireCall}
use Rattle.order_meaning.specs.declared.Side.{Side}
use Rattle.frame_grammar.specs.Held.{Held}
use Rattle.kept_entries.specs.Days.{past_of}
use Rattle.drop_taps.specs.Shown.{TapState}
use Rattle.event_decisions.specs.Event.{Event}
use Rattle.gateway_life.specs.declared.end.LifeEnd.{LifeEnd}
use Rattle.gateway_life.specs.State.{EngineState}
use Rattle.gateway_life.specs.Ready.{Ready, world_of, LeavesOf, IfTold, Behind}
use Rattle.gateway_life.specs.Stepped.{Records, records, AllStepped, Failed, EndsEvent, HasCauseOf}
use Rattle.gateway_life.specs.Watched.{Watched, WereCommitted}
use Rattle.gateway_life.specs.Causes.{IsCauseIn}
use Rattle.gateway_life.specs.Turned.{Turned, TurnBroken}

-- an engine, and what is told around it: by its disk, which may leave these images, and its wires
pub record Around : Type 1 where
  pub engine : EngineState
  pub disk : Option (List ℕ)
  pub image : List ℕ → Type 0
  pub faults : ℕ
  pub wires : Records

abbrev pub around : EngineState → Option (List ℕ) → (List ℕ → Type 0) → ℕ
    → (client venue : Option (List WireCall)) → Around
around engine disk image faults client venue = record {
  engine = engine;
  disk = disk;
  image = image;
  faults = faults;
  wires = records client venue;
}

-- What holds of each part of a life: how it goes on, or how it ended, what the taps saw, and which
-- images are left.
pub record Kept {T V : Type 0} (state : T → TapState) (taps0 taps1 : List T) (old new : Around)
    (result : Result V LifeEnd) : Type 0 where
  pub config : new.engine.core.config ≡ old.engine.core.config
  pub ready : OnOk result (Ready new.engine new.disk new.wires.client new.wires.venue)
  pub durable : OnOk result (HasOneImage old.disk old.image → HasOneImage new.disk new.image)
  pub taps : Watched state taps0 taps1 old.engine.journal.entries new.engine.journal.entries
  pub left : IfErr result (λ end. LeavesOf old.disk old.image new.image
      old.engine.core.config.names (WereCommitted end new.engine.journal.entries))
  pub only : IfErr result (EndsEvent old.disk)
  pub journal_cause : IfErr result (λ end. IsCauseIn end new.engine)
  pub told : is_some new.disk ≡ is_some old.disk
  pub cause : HasCauseOf old.faults new.faults result

-- THESE EVENTS of a day were dealt with; or some of them, the last of which ended the life.
pub record Dealt {T V : Type 0} (state : T → TapState) (taps0 taps1 : List T) (old new : Around)
    (events : List Event) (now : ℕ) (result : Result V LifeEnd) : Type 0 where
  pub kept : Kept state taps0 taps1 old new result
  pub past : OnOk result (past_of new.engine.journal.entries ≡ past_of old.engine.journal.entries)
  pub done : OnOk result (IfTold old.disk (AllStepped old.engine.core.config (world_of old.engine)
      events now (world_of new.engine) old.wires new.wires))
  pub ends : IfErr result (λ end. LeavesOf old.disk old.image new.image
      old.engine.core.config.names (Behind (past_of old.engine.journal.entries)
      (Failed end old.engine.core.config (past_of old.engine.journal.entries)
      (world_of old.engine) events now old.wires new.wires)))

-- A SIDE'S TURN was dealt with; or one of its events ended the life.
pub record TurnOver {T V : Type 0} (state : T → TapState) (taps0 taps1 : List T) (old new : Around)
    (side : Side) (held next : Held) (now : ℕ) (result : Result V LifeEnd) : Type 0 where
  pub kept : Kept state taps0 taps1 old new result
  pub past : OnOk result (past_of new.engine.journal.entries ≡ past_of old.engine.journal.entries)
  pub turn : OnOk result (IfTold old.disk (Turned side held next old.engine.core.config
      (world_of old.engine) now (world_of new.engine) old.wires new.wires))
  pub ends : IfErr result (λ end. LeavesOf old.disk old.image new.image
      old.engine.core.config.names (Behind (past_of old.engine.journal.entries)
      (TurnBroken end side held old.engine.core.config (past_of old.engine.journal.entries)
      (world_of old.engine) now old.wires new.wires)))
