-- Own: what a life is seen as, between its rounds.
use Rattle.std.specs.Prelude.{Bool}
use Rattle.frame_grammar.specs.Held.{Held}
use Rattle.pair_journal.specs.State.{JournalState}
use Rattle.gateway_core.specs.State.{CoreState}
use Rattle.gateway_life.specs.declared.engine.Engine.{Engine}

-- the journal, the core, and which connections stand
pub record EngineState : Type 0 where
  pub journal : JournalState
  pub core : CoreState
  pub client_up : Bool
  pub venue_up : Bool

abbrev pub seen : Engine → EngineState
seen engine = record {
  journal = engine.journal;
  core = engine.core;
  client_up = engine.client_up;
  venue_up = engine.venue_up;
}

-- and what the framer of each side holds
pub record LifeState : Type 0 where
  pub engine : EngineState
  pub client : Held
  pub venue : Held
